use Rattle.std.proofs.Common.{take, ◌≡◌}
use Rattle.msg_order.proofs.plan.kept.Given as goal

abbrev pub invariant-loop-set : goal.invariant-loop-set
invariant-loop-set _g l = l.kept.items ≡ take l.set-index l.sets
