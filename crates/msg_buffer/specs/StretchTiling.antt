-- How the reads and clears of one reader tile its history: nothing is gone past twice, and nothing
-- is left out but what was missed.
use Rattle.std.specs.Prelude.{◌≡◌, ℕ, ◌≤◌, min, List, [], ◌∷◌, length, take, drop, All, Option, Some, None}
use Rattle.msg_buffer.specs.{History.History, History.IsSound, History.clear, History.count, History.current, History.instances, History.present, Reader.Stretch, Reader.next_place, Reader.given, Reader.read, Reader.pass_over, Reader.unread, Reader.Fits, Reader.Tile}

-- what a reader does at a moment: it reads, with or without a limit, or it clears
pub data Pass : Type 0 where
  reads : Option ℕ → Pass
  clears : Pass

-- the stretch that it goes past
abbrev pub stretch_of : {M : Type 0} → History M → ℕ → Pass → Stretch
stretch_of h place (reads limit) = read h place limit
stretch_of h place clears = pass_over h place

-- the stretches of one reader from a place on, each with the history of its moment
abbrev pub stretches : {M : Type 0} → ℕ → List (History M × Pass) → List (History M × Stretch)
stretches place [] = []
stretches place (x ∷ xs) =
    (x.0, stretch_of x.0 place x.1) ∷ stretches (next_place (stretch_of x.0 place x.1)) xs

-- where they lead
abbrev pub ends_at : {M : Type 0} → ℕ → List (History M × Pass) → ℕ
ends_at place [] = place
ends_at place (x ∷ xs) = ends_at (next_place (stretch_of x.0 place x.1)) xs

module _ (M : Type 0) where
  -- Each read fits, and gives the very messages that it goes past. If the place wasn't past the
  -- count, the next place isn't either.
  abbrev pub ReadsFit : Type 0
  ReadsFit = (h : History M) (place : ℕ) (limit : Option ℕ) → IsSound h
      → Fits h place (read h place limit)
      × (given h place limit
      ≡ take (read h place limit).number (drop (read h place limit).first (instances h)))
      × (place ≤ count h → next_place (read h place limit) ≤ count h)

  -- A read goes past all that is unread, or past as many messages as its limit if these are
  -- fewer.
  abbrev pub ReadsUpTo : Type 0
  ReadsUpTo = (h : History M) (place : ℕ)
      → ((read h place None).number ≡ length (unread h place))
      × ((limit : ℕ) → (read h place (Some limit)).number ≡ min limit (length (unread h place)))

  -- After a clear or a drain of the messages none is present, and none is unread, wherever a reader
  -- stands; the numbers go on.
  abbrev pub ClearsLeaveNone : Type 0
  ClearsLeaveNone = (h : History M) → (present (clear h) ≡ []) × (current (clear h) ≡ [])
      × ((place : ℕ) → unread (clear h) place ≡ []) × (count (clear h) ≡ count h)

  -- Each clear fits. If the place wasn't past the count, the next place is the count.
  abbrev pub ClearsFit : Type 0
  ClearsFit = (h : History M) (place : ℕ) → IsSound h
      → Fits h place (pass_over h place)
      × (place ≤ count h → next_place (pass_over h place) ≡ count h)

  -- All reads and clears of one reader tile, whatever was written, updated or cleared in between.
  abbrev pub RunsTile : Type 0
  RunsTile = (place : ℕ) (moments : List (History M × Pass)) → All (λ x. IsSound x.0) moments
      → Tile place (stretches place moments) (ends_at place moments)
