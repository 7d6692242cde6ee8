use Rattle.std.proofs.{Common.arith, lemmas.Grind.common_steps}
use Rattle.msg_system.proofs.steps.get.Goals as goal

pub returns : goal.returns
returns g c = record { ran = λ s stand. grind (arith, common_steps, c.value_of.ensures.value s stand) }
