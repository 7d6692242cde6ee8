use Rattle.std.specs.List.{AllZip}
use Rattle.msg_exec.specs.inner.Batches.{IsWithWorld}
use Rattle.msg_exec.proofs.side_by_side.with_world.Given as goal

abbrev pub invariant-loop-job : goal.invariant-loop-job
invariant-loop-job g l = AllZip (IsWithWorld l.world) l.yielded l.all.items
