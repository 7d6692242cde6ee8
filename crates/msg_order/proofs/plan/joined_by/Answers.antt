use Rattle.std.proofs.Common.{arith}
use Rattle.std.proofs.lemmas.Grind.{common_steps}
use Rattle.msg_order.proofs.plan.joined_by.Goals as goal

pub loop-join-preserved : goal.loop-join-preserved
loop-join-preserved c = grind (arith, common_steps)
