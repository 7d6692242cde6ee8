use Rattle.msg_exec.specs.Prelude.{IsEngine}
use Rattle.msg_world.specs.Prelude.{i64_values}
use Rattle.msg_engine_tests.proofs.out_of_memory.replay_all.Given as goal

abbrev pub invariant-loop-frame : goal.invariant-loop-frame
invariant-loop-frame g l = IsEngine i64_values g.S.SystemOf.meaning l.engine
