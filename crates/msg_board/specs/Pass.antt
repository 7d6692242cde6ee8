-- A pass as its holder sees it, and what a draw and a hand-in do to it.
use Rattle.std.specs.Prelude.{◌≡◌, ℕ, ◌+◌, ◌<◌, ◌≤◌, List, ◌∷◌, [], ◌++◌, length, slice_get, filter, flat_map, not, All, Option, Some, None, Bool, true, false}
use Rattle.atomic_table.specs.Seated.{TableId}
use Rattle.msg_board.specs.Counts.{is_held}

-- what a pass has done so far
pub record PassState (J : Type 0) : Type 0 where
  -- the table of its board, whose words and slots its steps use
  pub table : TableId
  -- the jobs of its board
  pub jobs : List J
  -- how many numbers it has tried: 0, 1, 2 and so on, each once
  pub tried : ℕ
  -- the numbers that it has drawn, in order
  pub drawn : List ℕ
  -- the number that it has drawn and not handed in
  pub holding : Option ℕ
  -- whether it drew None
  pub finished : Bool

module _ {J : Type 0} where
  -- the numbers that it has handed in: those that it drew, but the one that it holds
  abbrev pub handed_in : PassState J → List ℕ
  handed_in p = filter (λ k. not (is_held k p.holding)) p.drawn

  -- the numbers that these passes have drawn, one pass after the other
  abbrev pub drawn_by : List (PassState J) → List ℕ
  drawn_by ps = flat_map (λ p. p.drawn) ps

  -- the numbers that they have handed in, one pass after the other
  abbrev pub handed_in_by : List (PassState J) → List ℕ
  handed_in_by ps = flat_map handed_in ps

  -- the pass drew the number k, and with it this job
  pub record Drew (jobs : List J) (old new : PassState J) (k : ℕ) (job : J) : Type 0 where
    -- the job is the one that was put there
    pub job_there : slice_get jobs k ≡ Some job
    pub within : k < length jobs
    -- k is above all that it drew before, and not below what it had left to try
    pub above : All (λ n. n < k) old.drawn
    pub untried : old.tried ≤ k
    -- k joins its list, and it holds k
    pub drawn : new.drawn ≡ old.drawn ++ k ∷ []
    pub holding : new.holding ≡ Some k
    -- it has tried k now, and isn't finished
    pub tried : new.tried ≡ k + 1
    pub unfinished : new.finished ≡ false

  -- the pass drew None: it has tried every number, and is finished
  pub record DrewNone (jobs : List J) (old new : PassState J) : Type 0 where
    pub drawn : new.drawn ≡ old.drawn
    pub holding : new.holding ≡ None
    pub tried : new.tried ≡ length jobs
    pub finished : new.finished ≡ true

  -- the pass handed in k, and nothing else about it changed
  pub record HandedIn (old new : PassState J) (k : ℕ) : Type 0 where
    pub handed_in : handed_in new ≡ handed_in old ++ k ∷ []
    pub holding : new.holding ≡ None
    pub drawn : new.drawn ≡ old.drawn
    pub tried : new.tried ≡ old.tried
    pub finished : new.finished ≡ old.finished
