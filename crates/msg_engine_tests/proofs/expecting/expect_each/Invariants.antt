use Rattle.msg_exec.specs.Prelude.{IsEngine}
use Rattle.msg_engine_tests.proofs.expecting.expect_each.Given as goal

abbrev pub invariant-loop-frame : goal.invariant-loop-frame
invariant-loop-frame g l = IsEngine g.V.Value.values g.S.SystemOf.meaning l.engine
