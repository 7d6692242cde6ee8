use Rattle.msg_exec.specs.Prelude.{IsEngine}
use Rattle.msg_world.specs.Prelude.{i64_values}
use Rattle.frame_bench.proofs.replays.run_replays.Given as goal

abbrev pub invariant-frames : goal.invariant-frames
invariant-frames g l = IsEngine i64_values g.S.SystemOf.meaning l.engine
