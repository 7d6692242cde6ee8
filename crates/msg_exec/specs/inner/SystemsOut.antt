-- Systems go out for their turns, and come home.
use Rattle.std.specs.Prelude.{◌≡◌, ◌≢◌, ℕ, ◌<◌, Bool, false, ◌||◌, List, [], ◌∷◌, Contains, length, slice_get, slice_set, Some, None, if◌then◌else◌}
use Rattle.std.specs.{Global.Vec, List.AllZip}
use Rattle.msg_world.specs.declared.access.Access.{Access}
use Rattle.msg_world.specs.{declared.part.Part.Part, Prelude.LendsOut, Prelude.SameSize, Prelude.TakesBack, Prelude.slot, Prelude.writes, Prelude.Values}
use Rattle.msg_order.specs.Prelude.{access_of}
use Rattle.msg_system.specs.declared.op.Op.{Op}
use Rattle.msg_system.specs.Prelude.{Meaning}
use Rattle.msg_exec.specs.{Jobs.JobView, declared.lender.Lender.Lender, inner.Totals.totals_by, Keeping.capped_totals, Keeping.totals_at, Lender.system_at}
use Rattle.msg_frames.specs.declared.log.Outcome.{Outcome}
use Rattle.msg_frames.specs.declared.totals.Totals.{Totals}
use Rattle.msg_frames.specs.Prelude.{State, reader_place}

-- whether any of these systems writes the part
abbrev pub any_writes : List Access → List ℕ → Part → Bool
any_writes accesses [] p = false
any_writes accesses (i ∷ is) p = writes (access_of accesses i) p || any_writes accesses is p

module _ {S V : Type 0} where
  -- System i goes out for its turn: the job has it, with what its access writes and an empty list
  -- of replies. All else stays.
  pub record GoesOut (old : Lender S V) (i : ℕ) (job : JobView S V)
      (new : Lender S V) : Type 0 where
    pub number : job.number ≡ i
    pub guarded : system_at old i ≡ Some job.guarded
    pub access : job.access ≡ access_of old.accesses.items i
    pub empty : job.replies ≡ []
    pub lent : LendsOut job.access old.world new.world job.taken
    pub systems : new.systems.items ≡ slice_set old.systems.items i None
    pub accesses : new.accesses.items ≡ old.accesses.items
    pub totals : new.totals.items ≡ old.totals.items

  -- A job that is out from the lender `whole`: what it has is as it was there, and its list of
  -- replies is empty.
  pub record IsOut (whole : Lender S V) (i : ℕ) (job : JobView S V) : Type 0 where
    pub number : job.number ≡ i
    pub guarded : system_at whole i ≡ Some job.guarded
    pub access : job.access ≡ access_of whole.accesses.items i
    pub empty : job.replies ≡ []
    pub size : SameSize whole.world job.taken
    pub taken : (p : Part) → slot p job.taken
        ≡ (if writes job.access p then slot p whole.world else None)

  -- The jobs of a batch are out. What none of its systems writes stays, and so do the other
  -- systems.
  pub record AreOut (whole : Lender S V) (batch : List ℕ) (jobs : List (JobView S V))
      (left : Lender S V) : Type 0 where
    pub each : AllZip (IsOut whole) batch jobs
    pub size : SameSize whole.world left.world
    pub world : (p : Part)
        → slot p left.world ≡ (if any_writes whole.accesses.items batch p then None
        else slot p whole.world)
    pub as_many : length left.systems.items ≡ length whole.systems.items
    pub others : (k : ℕ) → ¬ Contains batch k → system_at left k ≡ system_at whole k
    pub accesses : left.accesses.items ≡ whole.accesses.items
    pub totals : left.totals.items ≡ whole.totals.items

module _ {V : Type 0} where
  -- the totals of a system after what came of a turn that was of these ops
  pub record HaveEntered (ops : List (Op V)) (outcome : Outcome V)
      (old new : List Totals) : Type 0 where
    pub as_many : length new ≡ length old
    pub entered : (t : ℕ) (x : Totals) → t < length old → totals_at old t ≡ capped_totals x
        → totals_at new t ≡ capped_totals (totals_by t ops outcome x)

module _ {S V : Type 0} (meaning : S → Meaning V) where
  -- A system comes home from its turn, with what it gives back, and its totals are those after it.
  -- All else stays.
  pub record ComesHome (old : Lender S V) (done : JobView S V) (new : Lender S V) : Type 0 where
    pub as_many : length new.systems.items ≡ length old.systems.items
    pub system : system_at new done.number ≡ Some done.guarded
    pub others : (k : ℕ) → k ≢ done.number → system_at new k ≡ system_at old k
    pub accesses : new.accesses.items ≡ old.accesses.items
    pub taken_back : TakesBack done.taken old.world new.world
    pub totals : (v : Vec Totals) × (new.totals.items ≡ slice_set old.totals.items done.number v)
        × ((u : Vec Totals) → slice_get old.totals.items done.number ≡ Some u
        → HaveEntered (meaning done.guarded.system).last done.outcome u.items v.items)

module _ {V : Type 0} {values : Values V} where
  -- those that join with this frame were given nothing yet
  abbrev pub HaveReadNothing : ℕ → State values → Type 0
  HaveReadNothing frame s = (i t : ℕ) → (s.members i).join ≡ frame → reader_place s i t ≡ 0
