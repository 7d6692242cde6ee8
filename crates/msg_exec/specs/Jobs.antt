-- What a job does: the turn of its system, on each world that it was lent from.
use Rattle.std.specs.Prelude.{◌≡◌, ℕ, Bool, true, false, List, [], Result, IfOk}
use Rattle.msg_world.specs.declared.access.Access.{Access}
use Rattle.msg_world.specs.Prelude.{IsLoanOf, Parts, PartsStand, SameShape, WorldState, Values}
use Rattle.msg_system.specs.declared.reply.Reply.{Reply}
use Rattle.msg_system.specs.Prelude.{AfterJob, IsAccessOf, Job as JobState, Meaning, Needs, after_job, conditions_of, with_conditions}
use Rattle.msg_exec.specs.{declared.job.GuardedSystem.GuardedSystem}
use Rattle.msg_frames.specs.declared.log.Outcome.{Outcome}
use Rattle.msg_frames.specs.declared.log.Outcome.TheVariants.{Ran, Skipped}
use Rattle.msg_frames.specs.Prelude.{outcome_of}

-- A job: the number of a system, the system with its conditions, its access, what was lent to it in
-- writing, and an empty list for its replies. After its turn it has what the system gives back, and
-- what came of the job.
pub record JobView (S V : Type 0) : Type 0 where
  pub number : ℕ
  pub guarded : GuardedSystem S V
  pub access : Access
  pub taken : Parts V
  pub replies : List (Reply V)
  pub outcome : Outcome V

-- what came of a turn, if the system ran and if not
abbrev pub outcome_if : {V : Type 0} → Bool → List (Reply V) → Outcome V
outcome_if true replies = Ran replies
outcome_if false replies = Skipped

module _ {S V : Type 0} (meaning : S → Meaning V) where
  -- a system and its conditions, as the job that they mean
  abbrev pub job_state : GuardedSystem S V → JobState V
  job_state a = record { system = meaning a.system; conditions = a.guards.items }

  -- what a system with its conditions needs
  abbrev pub guarded_needs : GuardedSystem S V → Needs
  guarded_needs a = with_conditions (meaning a.system).needs (conditions_of (job_state a))

  -- A job may run on a world: it has what its access uses, that is what it needs, and its list of
  -- replies is empty.
  pub record MayRun (world : Parts V) (j : JobView S V) : Type 0 where
    pub loan : IsLoanOf j.access world j.taken
    pub access : IsAccessOf (guarded_needs j.guarded) j.access
    pub empty : j.replies ≡ []

module _ {S V : Type 0} {values : Values V} (meaning : S → Meaning V) where
  -- The job is done: its system, what it gives back and what came of it are what they mean to be
  -- after it.
  pub record IsAfterJob (after : AfterJob values) (guarded : GuardedSystem S V) (taken : Parts V)
      (came : Outcome V) : Type 0 where
    pub job : job_state meaning guarded ≡ after.job
    pub written : PartsStand taken after.world
    pub outcome : came ≡ outcome_of after.replies

module _ {S V : Type 0} (values : Values V) (meaning : S → Meaning V) where
  -- A turn on a loan is the job of the system and its conditions, on each world that the loan
  -- stands for.
  pub record HasTakenTurn (world taken : Parts V) (old : GuardedSystem S V) (later : Parts V)
      (came : Outcome V) (new : GuardedSystem S V) : Type 0 where
    -- what is given back may be taken back
    pub shape : SameShape taken later
    pub after : (w : WorldState values) → PartsStand world w → PartsStand taken w
        → IsAfterJob meaning (after_job (job_state meaning old) w) new later came

  -- A lawful result of a job on a world.
  pub record IsDone (world : Parts V) (j : JobView S V) (d : JobView S V) : Type 0 where
    pub number : d.number ≡ j.number
    pub turn : HasTakenTurn world j.taken j.guarded d.taken d.outcome d.guarded

  -- a lawful result, or the word that memory was refused
  pub record IsResult {E : Type 0} (world : Parts V) (j : JobView S V)
      (r : Result (JobView S V) E) : Type 0 where
    pub done : IfOk r (IsDone world j)
