-- The law of a board, which holds between any two atomic steps, and what each step does.
--
-- A board of n jobs has n slots and n + 1 words. Slot k has job k at first, and its result at last.
-- Word k is 0 while job k waits in its slot, 1 while a pass has drawn it and not handed it in, and
-- 2 once its result is in. The further word stays 0: by it a board of no jobs has a word too.
--
-- A pass has a view of the board, which only its own steps change. The law speaks of all views at
-- once: a number that one view holds is held by no other, and one that it has drawn was drawn by no
-- other.
use Rattle.std.specs.Prelude.{◌≡◌, ◌≢◌, ℕ, zero, suc, ◌+◌, ◌-◌, ◌<◌, ◌≤◌, List, [], ◌∷◌, ◌++◌, length, slice_index, sum_by, count_by, Some, None}
use mathlib.Core.Option.{some, none}
use mathlib.Core.Option as maybe
use lib.ListN.{get_elem?}
use Rattle.atomic_table.specs.Table.{State, Me, Step}
use Rattle.msg_board.specs.{declared.law.Slot.Slot, declared.law.Slot.TheVariants.Job, declared.law.Slot.TheVariants.Done, declared.law.View.View, Counts.times, Counts.is_held}

-- how many passes hold the number of a word: none at 0, one at 1, none at 2
abbrev pub holders_at : ℕ → ℕ
holders_at zero = 0
holders_at (suc zero) = 1
holders_at (suc (suc more)) = 0

-- how often the number of a word was drawn: not at 0, and once from then on
abbrev pub draws_at : ℕ → ℕ
draws_at zero = 0
draws_at (suc more) = 1

-- a slot of a table: `none` if there is no such slot, `some none` if its value is out
abbrev Home : Type 0 → Type 0
Home S = maybe.Option (maybe.Option S)

module _ {J D : Type 0} where
  -- What the word w says of the slot of job j: `some (some x)` is a slot with x at home, and
  -- `some none` one that is out. A table lets one seat alone reach what is in a slot that is out
  pub record IsSlotOf (lawful : J → D → Type 0) (j : J) (w : ℕ) (slot : Home (Slot J D))
      : Type 0 where
    -- at 0 the job is at home
    pub waiting : w ≡ 0 → slot ≡ some (some (Job j))
    -- at 1 the slot is out
    pub out : w ≡ 1 → slot ≡ some none
    -- at 2 a lawful result of the job is at home
    pub done : w ≡ 2 → (d : D) × (slot ≡ some (some (Done d))) × lawful j d

module _ {J : Type 0} where
  -- What a view says of the board's jobs and words. A view of weight 0 is spent, and says nothing
  pub record IsViewOf (jobs : List J) (words : List ℕ) (v : View J) : Type 0 where
    -- it has the board's jobs
    pub same_jobs : 0 < v.weight → v.jobs ≡ jobs
    -- it has tried no more words than there are jobs
    pub within : 0 < v.weight → v.next ≤ length jobs
    -- no word that it has tried is 0
    pub tried : 0 < v.weight → (k : ℕ) → k < v.next → slice_index words k ≢ 0
    -- a spent view has drawn nothing, and holds nothing
    pub spent_drawn : v.weight ≡ 0 → v.drawn ≡ []
    pub spent_held : v.weight ≡ 0 → v.held ≡ None

module _ {J D : Type 0} (lawful : J → D → Type 0) where
  -- The law of a board of these jobs, which was made with so many passes
  pub record Holds (jobs : List J) (passes : ℕ) (s : State (Slot J D) (View J)) : Type 0 where
    -- there are a word for each job and a further one, and a slot for each job
    pub words : length s.words ≡ length jobs + 1
    pub slots : length s.homes ≡ length jobs
    -- each word is 0, 1 or 2
    pub at_most_two : (k : ℕ) → slice_index s.words k ≤ 2
    -- the further word is 0
    pub further : slice_index s.words (length jobs) ≡ 0
    -- each slot has what its word says
    pub each_slot : (k : ℕ) (j : J) → get_elem? jobs k ≡ some j
        → IsSlotOf lawful j (slice_index s.words k) (get_elem? s.homes k)
    -- what each view says is so
    pub each_view : (by : ℕ) (v : View J) → get_elem? s.views by ≡ some v → IsViewOf jobs s.words v
    -- while word k is 1 just one view holds k, and else none does
    pub held : (k : ℕ)
        → count_by (λ v. is_held k v.held) s.views ≡ holders_at (slice_index s.words k)
    -- in the drawn lists of all views together k stands once, once word k has left 0, and before
    -- not at all
    pub drawn : (k : ℕ)
        → sum_by (λ v. times k v.drawn) s.views ≡ draws_at (slice_index s.words k)
    -- the views' weights add up to the number of passes
    pub weights : sum_by (λ v. v.weight) s.views ≡ passes

module _ {J D : Type 0} where
  -- What follows for a number k that a view holds: no other view holds it, and its slot isn't at
  -- home. A state of the table doesn't say with whom it is out. `DrawsJob` and `HandingIn` do: with
  -- the pass's own seat, after the step that draws k and before the one that hands it in
  pub record IsHeldAlone (s : State (Slot J D) (View J)) (k : ℕ) : Type 0 where
    pub by_one : (by other : ℕ) (v w : View J) → get_elem? s.views by ≡ some v
        → get_elem? s.views other ≡ some w → v.held ≡ Some k → w.held ≡ Some k → by ≡ other
    pub slot_out : (by : ℕ) (v : View J) → get_elem? s.views by ≡ some v → v.held ≡ Some k
        → get_elem? s.homes k ≡ some none

-- The views that the steps make

module _ {J : Type 0} where
  -- the first seat's, as the table is made: it stands for all passes, and has done nothing
  abbrev pub whole_view : List J → ℕ → View J
  whole_view jobs passes =
      record { jobs = jobs; weight = passes; next = 0; drawn = []; held = None }

  -- what the first seat keeps as it gives one pass away
  abbrev pub without_one : View J → View J
  without_one v = record v { weight = v.weight - 1 }

  -- what it gives away: a view of the same jobs, which stands for one pass
  abbrev pub one_of : View J → View J
  one_of v = whole_view v.jobs 1

  -- a pass found its next word above 0
  abbrev pub tried : View J → View J
  tried v = record v { next = v.next + 1 }

  -- a pass found word k, its next, at 0
  abbrev pub with_job : ℕ → View J → View J
  with_job k v = record v { next = k + 1; drawn = v.drawn ++ k ∷ []; held = Some k }

  -- a pass handed in what it held
  abbrev pub without_job : View J → View J
  without_job v = record v { held = None }

  -- a seat took in the view w
  abbrev pub view_union : View J → View J → View J
  view_union v w = record v { weight = v.weight + w.weight; drawn = v.drawn ++ w.drawn }

  -- what is left of a view that another seat took in
  abbrev pub empty_view : View J
  empty_view = whole_view [] 0

-- The steps of a pass, between its seat before and its seat after

-- a seat, as a step sees it: its view, and the slots that are out with it
abbrev Standing : Type 0 → Type 0 → Type 0
Standing J D = Me (Slot J D) (View J)

module _ {J D : Type 0} where
  -- the pass draws the number k: the slot is out with it, with job k in it
  abbrev pub DrawsJob : ℕ → Standing J D → Standing J D → Type 0
  DrawsJob k before after = (j : J) × (get_elem? before.0.jobs k ≡ some j)
      × (after ≡ (with_job k before.0, (k, Job j) ∷ []))

  -- A step with the operand 1 on the pass's next word. If it finds 0, the pass draws that
  -- number, and else it has only tried the word. A step doesn't say which kind it is. That it is a
  -- `fetch_max` is said by the code of `try_next`
  pub record Drawing (step : Step (Slot J D)) (before : Standing J D) (found : ℕ)
      (after : Standing J D) : Type 0 where
    pub word : step.word ≡ before.0.next
    pub operand : step.first ≡ 1
    pub found_zero : found ≡ 0 → DrawsJob step.word before after
    pub found_more : found ≢ 0 → after ≡ (tried before.0, [])

  -- A store of 2 on the word of the number that the pass holds, whose slot is out with it and has
  -- a result in it. The pass holds nothing then, and the slot has gone home
  pub record HandingIn (step : Step (Slot J D)) (before : Standing J D) (stored : ℕ)
      (after : Standing J D) : Type 0 where
    pub word : before.0.held ≡ Some step.word
    pub operand : (step.first ≡ 2) × (stored ≡ 2)
    pub result : (d : D) × (before.1 ≡ (step.word, Done d) ∷ [])
    pub given_back : after ≡ (without_job before.0, [])
