use Rattle.std.proofs.Common.{IsTrue, true, ℕ, ◌&&◌, ◌-◌, ◌<◌, ◌↔◌, ◌≡◌, ◌≤◌, ◌⊎◌}
use Rattle.msg_world.specs.declared.limits.TheConstants.{MAX_SYSTEMS}
use Rattle.msg_order.specs.{inner.Paths.comes_before, inner.SystemSet.has}
use Rattle.msg_order.proofs.users.add_users.Given as goal

abbrev pub invariant-parts : goal.invariant-parts
invariant-parts l = record {
  at_most : l.t ≤ MAX_SYSTEMS;
  next : l.t < MAX_SYSTEMS → has l.parts l.t ≡ true;
  done : (k : ℕ) → IsTrue (has l.users k) ↔ (IsTrue (has l.initial.users k)
      ⊎ ((u : ℕ) × ((u < l.t) × IsTrue (has l.parts u && comes_before l.rows k u))));
}

abbrev pub decreases-parts : goal.decreases-parts
decreases-parts l = MAX_SYSTEMS - l.t
