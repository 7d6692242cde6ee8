-- What the parts of a new engine are.
use Rattle.std.specs.Prelude.{◌≡◌, ℕ, List, length, map, nat_le, Option, Some, slice_get, IsSomeAnd}
use Rattle.std.specs.Global.{Box}
use Rattle.msg_world.specs.declared.access.Access.{Access}
use Rattle.msg_order.specs.declared.rule.Rule.{Rule}
use Rattle.msg_order.specs.Prelude.{IsPlanOf}
use Rattle.msg_system.specs.Prelude.{IsAccessOf, Meaning, with_conditions}
use Rattle.msg_exec.specs.{declared.job.GuardedSystem.GuardedSystem, Jobs.job_state, Lender.TotalsStand, Building.EachIs, declared.building.Prepared.Prepared}
use Rattle.msg_frames.specs.declared.place.Place.{Place}
use Rattle.msg_frames.specs.Prelude.{new_job, no_totals}

module _ {S V : Type 0} (meaning : S → Meaning V) where
  -- an access is that of system i with its conditions
  abbrev pub IsAccessAt : List S → List (Place V) → ℕ → Access → Type 0
  IsAccessAt systems places i a = (x : S) (place : Place V) → slice_get systems i ≡ Some x
      → slice_get places i ≡ Some place
      → IsAccessOf (with_conditions (meaning x).needs place.conditions) a

  -- it is system i, with its conditions
  abbrev pub IsGuardedAt : List S → List (Place V) → ℕ → Option (Box (GuardedSystem S V)) → Type 0
  IsGuardedAt systems places i o = (x : S) (place : Place V) → slice_get systems i ≡ Some x
      → slice_get places i ≡ Some place
      → IsSomeAnd o (λ a. job_state meaning a.value ≡ new_job (meaning x) place)

module _ {S V : Type 0} (meaning : S → Meaning V) where
  -- What is reckoned of systems and of rules that make no cycle: the plan is that of the first
  -- frame.
  pub record IsPreparedFor (types : ℕ) (systems : List S) (places : List (Place V))
      (rules : List Rule)
      (made : Prepared) : Type 0 where
    pub one_access_each : length made.accesses.items ≡ length systems
    pub accesses : EachIs (IsAccessAt meaning systems places) made.accesses.items
    pub joins : made.joins.items ≡ map (λ place. place.join) places
    pub plan : IsPlanOf made.accesses.items rules (map (λ j. nat_le j 1) made.joins.items) made.plan
    pub totals_each : length made.totals.items ≡ length systems
    pub totals : EachIs (λ i w. TotalsStand types w.items (λ t. no_totals)) made.totals.items
