use Rattle.std.proofs.Common.{◌≡◌, ◌+◌, ◌≤◌, length, take, vec_capacity, vec_len}
use Rattle.msg_world.specs.Prelude.{LoanStands, SameLoan, WorldState}
use Rattle.msg_system.specs.{Prelude.after_program, Prelude.cursor_places, inner.TurnRuns.HasReplies, inner.TurnRuns.IsAfterProgram}
use Rattle.msg_system.proofs.scripted.run_ops.Given as goal

abbrev pub invariant-loop-op : goal.invariant-loop-op
invariant-loop-op g l = record {
  so_far : (s : WorldState g.V.Value.values) → LoanStands l.initial.lent s
      → IsAfterProgram (after_program (take l.op-index l.ops) l.writer (cursor_places l.initial.cursors) s)
      (cursor_places l.cursors) l.lent l.initial.out.items l.out.items;
  replies : HasReplies l.initial.out.items l.out.items l.op-index;
  same : SameLoan l.initial.lent l.lent;
  long : vec_len l.out ≡ vec_len l.initial.out + l.op-index;
  room : vec_len l.initial.out + length l.ops ≤ vec_capacity l.out;
}
