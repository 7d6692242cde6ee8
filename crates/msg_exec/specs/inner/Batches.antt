-- What holds of a batch, of its jobs, and after its turns.
use Rattle.std.specs.Prelude.{◌≡◌, ◌≢◌, ◌<◌, ◌++◌, ℕ, All, AllPairs, List, Result}
use Rattle.msg_world.specs.Prelude.{Parts, Values}
use Rattle.msg_system.specs.Prelude.{Meaning}
use Rattle.msg_order.specs.Prelude.{NoneConflict}
use Rattle.msg_exec.specs.{Jobs.JobView, declared.side_by_side.BatchJob.BatchJob, declared.lender.Lender.Lender, Jobs.IsResult, Lender.LenderStands}
use Rattle.msg_frames.specs.declared.log.Turn.{Turn}
use Rattle.msg_frames.specs.Prelude.{State, after_turns_of}
use Rattle.msg_board.specs.Prelude.{IsLawfulOutcome}

-- a job, with the world
pub record IsWithWorld {V : Type 0} {S : Type 0} (w : Parts V) (j : JobView S V)
    (b : BatchJob S V) : Type 0 where
  pub job : b.job ≡ j
  pub world : b.world.now ≡ w

module _ {S V : Type 0} (values : Values V) (meaning : S → Meaning V) where
  -- What came of each job of a batch, on one world: a lawful result, or the word that memory was
  -- refused.
  abbrev pub AreResults : {E : Type 0} → Parts V → List (JobView S V)
      → List (Result (JobView S V) E)
      → Type 0
  AreResults world jobs results = IsLawfulOutcome (IsResult values meaning world) jobs results

module _ {S V : Type 0} {values : Values V} (meaning : S → Meaning V) where
  -- The lender stands for the state, and the batch is of its systems, each once, of which no two
  -- conflict.
  pub record IsBatch (whole : Lender S V) (s : State values) (batch : List ℕ) : Type 0 where
    pub stands : LenderStands meaning whole s
    pub below : All (λ i. i < s.systems) batch
    pub once : AllPairs (λ i j. i ≢ j) batch
    pub apart : NoneConflict whole.accesses.items batch

  -- what holds after the turns of these systems on the state s
  pub record HasTurned (is : List ℕ) (s : State values) (lender : Lender S V)
      (before after : List (Turn V)) : Type 0 where
    pub state : LenderStands meaning lender (after_turns_of is s).state
    pub turns : after ≡ before ++ (after_turns_of is s).turns
