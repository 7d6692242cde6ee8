use Rattle.std.proofs.Common.{false, ℕ, ◌<◌, ◌≡◌, ◌≤◌}
use Rattle.msg_order.specs.{Prelude.has_joined, inner.SystemSet.has}
use Rattle.msg_order.proofs.plan.set_of.Given as goal

abbrev pub invariant-loop-i : goal.invariant-loop-i
invariant-loop-i l = record {
  done : (k : ℕ) → k < l.i → has l.set k ≡ has_joined l.joined k;
  rest : (k : ℕ) → l.i ≤ k → has l.set k ≡ false;
}
