use Rattle.std.proofs.Common.{true, ℕ, ◌&&◌, ◌-◌, ◌<◌, ◌||◌, ◌≡◌, ◌≤◌}
use Rattle.msg_world.specs.declared.limits.TheConstants.{MAX_SYSTEMS}
use Rattle.msg_order.specs.{inner.Paths.comes_before, inner.Paths.set_at, inner.SystemSet.has}
use Rattle.msg_order.proofs.paths.put_before.Given as goal

abbrev pub invariant-reached : goal.invariant-reached
invariant-reached l = record {
  at_most : l.j ≤ MAX_SYSTEMS;
  next : l.j < MAX_SYSTEMS → has l.reached l.j ≡ true;
  done : (i k : ℕ) → k < l.j → comes_before l.before i k
      ≡ (comes_before l.initial.before i k || (has l.reached k && has l.earlier i));
  rest : (k : ℕ) → l.j ≤ k → set_at l.before k ≡ set_at l.initial.before k;
}

abbrev pub decreases-reached : goal.decreases-reached
decreases-reached l = MAX_SYSTEMS - l.j
