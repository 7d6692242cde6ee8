-- When the systems and the world that an engine keeps stand for a state.
use Rattle.std.specs.Prelude.{◌≡◌, ℕ, ◌<◌, List, length, slice_get, slice_index, slice_index_or, Option, None, IsSomeAnd, option_map}
use Rattle.msg_world.specs.Prelude.{IsHome, IsWhole, PartsStand, Values}
use Rattle.msg_order.specs.Prelude.{access_of}
use Rattle.msg_system.specs.Prelude.{IsAccessOf, Meaning}
use Rattle.msg_exec.specs.{declared.job.GuardedSystem.GuardedSystem, declared.lender.Lender.Lender, Jobs.job_state, Keeping.capped_totals, Keeping.totals_at}
use Rattle.msg_frames.specs.declared.totals.Totals.{Totals}
use Rattle.msg_frames.specs.Prelude.{member_needs, Member, State}

-- the totals of a system, by type
pub record TotalsStand (types : ℕ) (xs : List Totals) (totals : ℕ → Totals) : Type 0 where
  pub as_many : length xs ≡ types
  pub each : (t : ℕ) → t < types → totals_at xs t ≡ capped_totals (totals t)

module _ {S V : Type 0} where
  -- system i, if it is home
  abbrev pub system_at : Lender S V → ℕ → Option (GuardedSystem S V)
  system_at g i = option_map (λ b. b.value) (slice_index_or g.systems.items i None)

module _ {S V : Type 0} (meaning : S → Meaning V) where
  -- System i is there, and so is what its access uses. With its access and its totals it stands for
  -- a member.
  pub record MemberStands (g : Lender S V) (types i : ℕ) (m : Member V) : Type 0 where
    pub guarded : IsSomeAnd (system_at g i) (λ a. job_state meaning a ≡ m.job)
    pub access : IsAccessOf (member_needs m) (access_of g.accesses.items i)
    pub home : IsHome (access_of g.accesses.items i) g.world
    pub totals : IsSomeAnd (slice_get g.totals.items i) (λ v. TotalsStand types v.items m.totals)

module _ {S V : Type 0} {values : Values V} (meaning : S → Meaning V) where
  -- All are home, and each is what the state says.
  pub record LenderStands (g : Lender S V) (s : State values) : Type 0 where
    pub systems : length g.systems.items ≡ s.systems
    pub accesses : length g.accesses.items ≡ s.systems
    pub totals : length g.totals.items ≡ s.systems
    pub members : (i : ℕ) → i < s.systems → MemberStands meaning g s.types i (s.members i)
    pub world : PartsStand g.world s.world
    pub whole : IsWhole g.world
    pub types : length g.world.types ≡ s.types
    pub resources : length g.world.resources ≡ s.resources

-- the frames with which the systems join
pub record AreJoins {V : Type 0} {values : Values V} (joins : List ℕ)
    (s : State values) : Type 0 where
  pub as_many : length joins ≡ s.systems
  pub each : (i : ℕ) → i < s.systems → slice_index joins i ≡ (s.members i).join
