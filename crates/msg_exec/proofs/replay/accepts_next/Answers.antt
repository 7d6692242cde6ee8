use Rattle.msg_exec.specs.inner.FrameSteps.{PlansNext}
use Rattle.msg_exec.proofs.CoreRunsFrame.{accepted, nobody_more}
use Rattle.msg_exec.proofs.replay.accepts_next.Goals as goal

pub returns-in-Some-clause-lawful : goal.returns-in-Some-clause-lawful
returns-in-Some-clause-lawful g c s stands is frame =
    let next = rw c.in-Some.is at (c.in_ok-plan.ensures.plan s stands is) in
    accepted g.S.SystemOf.meaning frame c.args.order.now stands next.2
    c.accepts.ensures.lawful

pub returns-in-None-clause-lawful : goal.returns-in-None-clause-lawful
returns-in-None-clause-lawful g c s stands is frame =
    let plan : PlansNext c.args.core.now s c.args.core.now.plan =
    rw (nobody_more s (rw c.in-None.is at (c.in_ok-plan.ensures.plan s stands is))) stands.plan in
    accepted g.S.SystemOf.meaning frame c.args.order.now stands plan
    c.accepts-in-None.ensures.lawful
