use Rattle.std.proofs.Common.{rules, ◌≡◌, arith, length}
use Rattle.msg_buffer.proofs.Standing.{written}
use Rattle.msg_buffer.proofs.messages.Messages.write_batch.Goals as goal

pub invariant_of-self-2 : goal.invariant_of-self-2
invariant_of-self-2 g c =
    let ms = c.args.batch.items in
    let long : c.len-n.result ≡ length ms = search rules in
    rw (c.append_numbered.ensures.appended, c.reserve.ensures.items, long)
    (written _ _ _ _ _ _ ms c.self.invariant (omega arith)).0

pub returns-clause-meaning : goal.returns-clause-meaning
returns-clause-meaning g c h s =
    let ms = c.args.batch.items in
    let long : c.len-n.result ≡ length ms = search rules in
    rw (c.append_numbered.ensures.appended, c.reserve.ensures.items)
    ((written _ _ _ _ _ _ ms c.self.invariant (omega arith)).1 h (rw (← c.self.view_is) at s))
