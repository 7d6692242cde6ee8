use Rattle.std.proofs.{Common.arith, lemmas.Grind.common_steps}
use Rattle.msg_system.proofs.steps.len.Goals as goal

pub returns : goal.returns
returns g c = record { ran = λ writer places at s stand. grind (arith, common_steps, at, c.len.ensures.meaning _ (c.messages_of.ensures.stands s stand)) }
