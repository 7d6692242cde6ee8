use Rattle.std.proofs.Common.{length, map, true, ℕ, ◌+◌, ◌<◌, ◌≡◌, ◌≤◌}
use Rattle.msg_order.specs.{Prelude.Graph, inner.Paths.ArePaths, inner.SystemSet.has}
use Rattle.msg_order.proofs.{BatchLevels.left_of, Functions.AreOut}
use Rattle.msg_order.proofs.levels.batches_of.Given as goal

abbrev pub invariant-levels : goal.invariant-levels
invariant-levels _g l = record {
  within : (k : ℕ) → has l.left k ≡ true → k < length l.before;
  few : length l.batches.items + length (left_of (has l.left) (length l.before)) ≤ length l.before;
  out : (g : Graph) → ArePaths g l.before
      → AreOut g (has l.joined) (has l.left) (length l.before) (map (λ b. b.items) l.batches.items);
}

abbrev pub decreases-levels : goal.decreases-levels
decreases-levels _g l = length (left_of (has l.left) (length l.before))
