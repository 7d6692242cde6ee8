use Rattle.msg_exec.specs.Prelude.{FitBelow}
use Rattle.msg_exec.proofs.builder.check_systems.Given as goal

abbrev pub invariant-loop-i : goal.invariant-loop-i
invariant-loop-i g l = FitBelow g.S.SystemOf.meaning l.i l.world l.systems l.places
