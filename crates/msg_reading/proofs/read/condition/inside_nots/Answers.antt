use Rattle.std.proofs.Common.{sym}
use Rattle.msg_reading.proofs.ConditionsAreRead.{NotsSeen-more, NotsSeen-end, NotsSeen-all}
use Rattle.msg_reading.proofs.read.condition.inside_nots.Goals as goal

pub returns-in_default : goal.returns-in_default
returns-in_default c =
    let end = NotsSeen-end c.loop-nots.invariant c.loop-nots-test.true (sym c.in_default.ensures.inside) in
    record { nots = end.0; inside = end.1 }

pub loop-nots-preserved : goal.loop-nots-preserved
loop-nots-preserved c = NotsSeen-more c.loop-nots.invariant c.loop-nots-test.true (sym c.in-Some.ensures.inside)

pub returns : goal.returns
returns c =
    let all = NotsSeen-all c.loop-nots.invariant c.loop-nots-test.false c.loop-nots.auto.nots-end in
    record { nots = all.0; inside = all.1 }
