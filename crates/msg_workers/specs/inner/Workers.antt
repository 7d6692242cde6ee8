-- What a worker drew first, and what holds of it once it has ended.
use Rattle.std.specs.Prelude.{◌≡◌, ◌+◌, ℕ, List, ◌∷◌, [], Option, Some, None, slice_get, ⊤}
use Rattle.msg_board.specs.Prelude.{BoardView, HasEnded, IsOf, PassState, jobs_of}
use Rattle.msg_workers.specs.Work.{EachNewIs}

module _ {J : Type 0} where
  -- The pass was new and drew this job, which it holds.
  pub record HasFirst (b : BoardView J) (p : PassState J) (k : ℕ) (job : J) : Type 0 where
    pub own : IsOf b p
    pub holding : p.holding ≡ Some k
    pub drawn : p.drawn ≡ k ∷ []
    pub there : slice_get (jobs_of b) k ≡ Some job

  -- The pass was new, and this is what it drew first: a job, or nothing, and so it has ended.
  abbrev pub IsFirstDraw : BoardView J → PassState J → Option (ℕ × J) → Type 0
  IsFirstDraw b p None = HasEnded b p × (p.drawn ≡ [])
  IsFirstDraw b p (Some r) = HasFirst b p r.0 r.1

  -- The pass was new and has ended, and of each job that it drew `Such` holds.
  pub record HasWorked (b : BoardView J) (Such : J → Type 0) (p : PassState J) : Type 0 where
    pub ended : HasEnded b p
    pub each : EachNewIs Such (jobs_of b) [] p.drawn

  -- The passes were new and have ended. They are those of the workers `first`, `first + 1` and so
  -- on: of each job that a pass drew `Such` holds for its worker.
  abbrev pub HaveWorked : BoardView J → (ℕ → J → Type 0) → ℕ → List (PassState J) → Type 0
  HaveWorked b Such first [] = ⊤
  HaveWorked b Such first (p ∷ ps) = HasWorked b (Such first) p × HaveWorked b Such (first + 1) ps
