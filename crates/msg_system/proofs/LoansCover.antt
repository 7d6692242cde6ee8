-- What a loan covers that has all that its access uses, and what is given back of it.
use Rattle.std.proofs.Common.{rules, arith}
use Rattle.std.proofs.lemmas.Grind.{common_steps}
use Rattle.msg_world.specs.Prelude.{Values}
use Rattle.msg_system.specs.Prelude.{JobsCover, WrittenIsAll}

pub written_is_all : {V : Type 0} {values : Values V} → WrittenIsAll values
written_is_all l taken s only stand = search rules

pub jobs_cover : {V : Type 0} → JobsCover V
jobs_cover n cs l complete is = grind (arith, common_steps)
