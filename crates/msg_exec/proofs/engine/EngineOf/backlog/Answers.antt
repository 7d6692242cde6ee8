use Rattle.std.proofs.Common.{arith, inr, refl}
use Rattle.msg_buffer.proofs.{Standing.oldest_and_present, Unread.length-unread}
use Rattle.msg_world.specs.declared.part.Part.TheVariants.{OfType}
use Rattle.msg_exec.proofs.engine.EngineOf.backlog.Goals as goal

pub returns-in_err-messages-clause-backlog : goal.returns-in_err-messages-clause-backlog
returns-in_err-messages-clause-backlog g c s stands lt =
    let types = c.in_ok-world.ensures.types s stands in
    let there = c.in_ok-world.ensures.whole (inr (s, stands)) (OfType c.args.account.now.of_type) (omega (arith, types, lt)) in
    absurd (grind (arith, there, c.in_err-messages.ensures.home))

pub returns-clause-backlog : goal.returns-clause-backlog
returns-clause-backlog g c s stands lt =
    let kept = c.in_ok-world.ensures.meaning s stands (OfType c.args.account.now.of_type) in
    let stand = rw (← c.in_ok-messages.ensures.home) at kept in
    rw (c.missed.ensures.meaning _ stand, c.len.ensures.meaning _ stand, c.new-cursor.ensures.place) refl

pub returns-clause-adds_up : goal.returns-clause-adds_up
returns-clause-adds_up g c s stands lt within =
    let h = s.world.histories c.args.account.now.of_type in
    let kept = c.in_ok-world.ensures.meaning s stands (OfType c.args.account.now.of_type) in
    let stand = rw (← c.in_ok-messages.ensures.home) at kept in
    rw (c.missed.ensures.meaning _ stand, c.len.ensures.meaning _ stand, c.new-cursor.ensures.place)
    (grind (arith, length-unread h c.args.account.now.place, oldest_and_present h, within))
