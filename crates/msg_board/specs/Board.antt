-- What a clause says of a board and of its passes.
use Rattle.std.specs.Prelude.{◌≡◌, ℕ, List, [], length, slice_get, Some, None, true, false}
use Rattle.atomic_table.specs.Seated.{TableId}
use Rattle.msg_board.specs.Pass.{PassState}

-- a board as its callers see it
pub record BoardView (J : Type 0) : Type 0 where
  -- its words and slots, by which it knows its passes
  pub table : TableId
  -- the jobs, in the order in which they were given
  pub jobs : List J
  -- how many passes were made
  pub passes : ℕ

module _ {J : Type 0} where
  -- the jobs of a board
  abbrev pub jobs_of : BoardView J → List J
  jobs_of b = b.jobs

  -- how many passes were made for it
  abbrev pub passes_of : BoardView J → ℕ
  passes_of b = b.passes

  -- the pass is one of this board's
  pub record IsOf (b : BoardView J) (p : PassState J) : Type 0 where
    pub table : p.table ≡ b.table
    pub jobs : p.jobs ≡ jobs_of b

  -- the pass is one of this board's, and has done nothing yet
  pub record IsNewPass (b : BoardView J) (p : PassState J) : Type 0 where
    pub own : IsOf b p
    pub tried : p.tried ≡ 0
    pub drawn : p.drawn ≡ []
    pub holding : p.holding ≡ None
    pub unfinished : p.finished ≡ false

  -- the pass is one of this board's, and holds nothing, so that it may draw
  pub record IsIdle (b : BoardView J) (p : PassState J) : Type 0 where
    pub own : IsOf b p
    pub holding : p.holding ≡ None

  -- the pass is one of this board's, holds nothing and is finished
  pub record HasEnded (b : BoardView J) (p : PassState J) : Type 0 where
    pub own : IsOf b p
    pub holding : p.holding ≡ None
    pub finished : p.finished ≡ true

module _ {J D : Type 0} where
  -- a lawful outcome of the jobs: as many results, and result k is a lawful one of job k
  pub record IsLawfulOutcome (lawful : J → D → Type 0) (jobs : List J) (results : List D)
      : Type 0 where
    pub as_many : length results ≡ length jobs
    pub each : (k : ℕ) (j : J) (d : D) → slice_get jobs k ≡ Some j → slice_get results k ≡ Some d
        → lawful j d
