use Rattle.std.proofs.Common.{◌≡◌, take}
use Rattle.msg_system.proofs.program.Program.copy.Given as goal

abbrev pub invariant-loop-op : goal.invariant-loop-op
invariant-loop-op g l = l.ops.items ≡ take l.op-index l.op-items
