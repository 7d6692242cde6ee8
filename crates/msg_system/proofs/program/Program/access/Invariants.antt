use Rattle.std.proofs.Common.{◌≡◌, take}
use Rattle.msg_world.specs.{declared.part.Part.Part, Prelude.reads, Prelude.writes}
use Rattle.msg_system.specs.Prelude.{some_op_reads, some_op_writes}
use Rattle.msg_system.proofs.program.Program.access.Given as goal

abbrev pub invariant-loop-op : goal.invariant-loop-op
invariant-loop-op g l = record {
  reads : (p : Part) → reads l.access p ≡ some_op_reads (take l.op-index l.op-items) p;
  writes : (p : Part) → writes l.access p ≡ some_op_writes (take l.op-index l.op-items) p;
}
