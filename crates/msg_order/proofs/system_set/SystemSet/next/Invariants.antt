use Rattle.std.proofs.Common.{false, ℕ, ◌-◌, ◌<◌, ◌≡◌, ◌≤◌}
use Rattle.msg_world.specs.declared.limits.TheConstants.{MAX_SYSTEMS}
use Rattle.msg_order.specs.inner.SystemSet.{has}
use Rattle.msg_order.proofs.system_set.SystemSet.next.Given as goal

abbrev pub invariant-words : goal.invariant-words
invariant-words l = record {
  from_there : l.from ≤ l.k;
  at_most : l.k ≤ MAX_SYSTEMS;
  none_before : (q : ℕ) → l.from ≤ q → q < l.k → has l.self q ≡ false;
}

abbrev pub decreases-words : goal.decreases-words
decreases-words l = MAX_SYSTEMS - l.k
