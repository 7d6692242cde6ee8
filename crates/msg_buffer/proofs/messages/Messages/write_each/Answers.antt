use Rattle.std.proofs.Common.{arith}
use Rattle.std.proofs.lemmas.Slice.Zip.{AllZip-long}
use Rattle.msg_buffer.proofs.Standing.{written}
use Rattle.msg_buffer.proofs.messages.Messages.write_each.Goals as goal

pub invariant_of-self-2 : goal.invariant_of-self-2
invariant_of-self-2 g c =
    let made = c.append_each.ensures.appended in
    let long = AllZip-long _ _ made.0 made.1 in
    rw (made.2, c.replace-instances.ensures.value, c.reserve.ensures.items, ← long)
    (written _ _ _ _ _ _ made.0 c.self.invariant (omega arith)).0

pub returns-clause-meaning : goal.returns-clause-meaning
returns-clause-meaning g c =
    let made = c.append_each.ensures.appended in
    let long = AllZip-long _ _ made.0 made.1 in (
      made.0,
      made.1,
      λ h s. rw (made.2, c.replace-instances.ensures.value, c.reserve.ensures.items)
          ((written _ _ _ _ _ _ made.0 c.self.invariant (omega arith)).1 h (rw (← c.self.view_is) at s)),
    )
