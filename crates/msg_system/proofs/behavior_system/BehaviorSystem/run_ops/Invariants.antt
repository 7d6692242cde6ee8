use Rattle.std.proofs.Common.{◌≡◌, ◌≤◌, ◌-◌, length}
use Rattle.msg_world.specs.Prelude.{LoanStands, SameLoan, WorldState}
use Rattle.msg_system.specs.{Prelude.after_at_most, Prelude.needs_of, Prelude.next_done, Prelude.cursor_places, declared.limits.TheConstants.MAX_OPS, inner.TurnRuns.AreAnswered, inner.TurnRuns.IsAfterProgram}
use Rattle.msg_system.proofs.behavior_system.BehaviorSystem.run_ops.Given as goal

abbrev pub invariant-turn : goal.invariant-turn
invariant-turn g l =
    let b = g.B.Behavior in let next = next_done (needs_of l.access) (b.next_op (b.memory l.behavior)) in
    record {
      so_far : (s : WorldState g.B.Value.Value.values) → LoanStands l.initial.lent s
          → IsAfterProgram (after_at_most (length l.ops.items) next l.writer (cursor_places l.initial.cursors) s)
          (cursor_places l.cursors) l.lent l.initial.out.items l.out.items;
      long : l.before ≡ length l.initial.out.items;
      answered : AreAnswered next l.ops.items l.initial.out.items l.out.items;
      few : length l.ops.items ≤ MAX_OPS;
      same : SameLoan l.initial.lent l.lent;
    }

abbrev pub decreases-turn : goal.decreases-turn
decreases-turn g l = MAX_OPS - length l.ops.items
