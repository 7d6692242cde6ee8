use Rattle.std.proofs.Common.{Bool, length, nat_lt, ℕ, ◌≡◌}
use Rattle.msg_order.specs.{Prelude.Graph, Prelude.TellsConflicts, Prelude.settle, inner.Paths.ArePaths, inner.Paths.AreStarts, inner.Paths.conflict_among, inner.SystemSet.has}
use Rattle.msg_order.proofs.SettledPairs.{pairs_until}
use Rattle.msg_order.proofs.paths.settle_pairs.Given as goal

abbrev pub invariant-loop-i : goal.invariant-loop-i
invariant-loop-i l = record {
  settled : (g : Graph) → ArePaths g l.fn.before → (conflict : ℕ → ℕ → Bool)
      → TellsConflicts l.accesses l.joined conflict
      → ArePaths (settle (conflict_among l.joined conflict) g (pairs_until (length l.joined) l.i)) l.before;
  starts : AreStarts l.before l.starts;
  passed : (j : ℕ) → has l.passed j ≡ nat_lt j l.i;
}
