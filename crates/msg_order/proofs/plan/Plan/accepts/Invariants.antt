use Rattle.msg_order.specs.inner.SystemSet.{has}
use Rattle.msg_order.proofs.AcceptedOrders.{AreTaken}
use Rattle.msg_order.proofs.plan.Plan.accepts.Given as goal

abbrev pub invariant-loop-system : goal.invariant-loop-system
invariant-loop-system _g l = AreTaken l.self.precedes l.self.joined l.order l.system-index (has l.left)
