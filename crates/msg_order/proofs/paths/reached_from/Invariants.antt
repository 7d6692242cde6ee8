use Rattle.std.proofs.Common.{ℕ, ◌<◌, ◌||◌, ◌≡◌, ◌≤◌}
use Rattle.msg_order.specs.{inner.Paths.set_at, inner.SystemSet.has, inner.SystemSet.meets}
use Rattle.msg_order.proofs.paths.reached_from.Given as goal

abbrev pub invariant-loop-j : goal.invariant-loop-j
invariant-loop-j l = record {
  done : (k : ℕ) → k < l.j → has l.reached k ≡ (has l.to k || meets (set_at l.before k) l.to);
  rest : (k : ℕ) → l.j ≤ k → has l.reached k ≡ has l.to k;
}
