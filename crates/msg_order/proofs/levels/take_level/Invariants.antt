use Rattle.std.proofs.Common.{false, filter, true, ℕ, ◌&&◌, ◌-◌, ◌<◌, ◌≡◌, ◌≤◌}
use Rattle.std.specs.List.{range_with_len}
use Rattle.msg_world.specs.declared.limits.TheConstants.{MAX_SYSTEMS}
use Rattle.msg_order.specs.{inner.Paths.is_ready, inner.Paths.set_at, inner.SystemSet.has, inner.SystemSet.meets}
use Rattle.msg_order.proofs.levels.take_level.Given as goal

abbrev pub invariant-left : goal.invariant-left
invariant-left _g l = record {
  at_most : l.i ≤ MAX_SYSTEMS;
  is_left : l.i < MAX_SYSTEMS → has l.left l.i ≡ true;
  batch : l.batch.items ≡ filter (is_ready l.before l.left) (range_with_len 0 l.i);
  next : (k : ℕ) → k < l.i → has l.next k ≡ (has l.left k && meets (set_at l.before k) l.left);
  above : (k : ℕ) → l.i ≤ k → has l.next k ≡ false;
}

abbrev pub decreases-left : goal.decreases-left
decreases-left _g l = MAX_SYSTEMS - l.i
