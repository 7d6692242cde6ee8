use Rattle.msg_advice.proofs.Cycles.{lead_on_at}
use Rattle.msg_advice.proofs.cycle.rules_along.Goals as goal

pub loop-level-preserved : goal.loop-level-preserved
loop-level-preserved c =
    rw (c.in_ok-push.ensures.items) (lead_on_at c.args.rules.now c.loop-level.way.items c.args.system c.loop-level.at c.in-Some.k _
    c.loop-level.invariant c.in-Some.ensures.below c.in-Some.ensures.leads)
