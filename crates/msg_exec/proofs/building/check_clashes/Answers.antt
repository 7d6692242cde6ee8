use Rattle.std.proofs.{Common.arith, lemmas.Grind.elements}
use Rattle.msg_exec.proofs.building.check_clashes.Goals as goal

pub loop-i-preserved : goal.loop-i-preserved
loop-i-preserved g c = grind (arith, elements)

pub returns-clause-none : goal.returns-clause-none
returns-clause-none g c = grind (arith, elements)
