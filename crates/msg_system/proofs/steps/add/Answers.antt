use Rattle.std.proofs.{Common.arith, lemmas.Grind.common_steps}
use Rattle.msg_system.proofs.steps.add.Goals as goal

pub returns-clause-ran : goal.returns-clause-ran
returns-clause-ran g c s stand =
    grind (arith, common_steps, c.value_of.ensures.value s stand, c.set_value.ensures.written s stand)
