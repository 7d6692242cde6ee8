-- Reading: a reader stands at a place, the number of the first message that it wasn't given yet.
use Rattle.std.specs.Prelude.{ℕ, ◌+◌, ◌-◌, max, List, length, take, drop, Option, Some, None, ◌≡◌, ◌≤◌, ◌<◌, [], ◌∷◌}
use Rattle.msg_buffer.specs.{declared.instance.Instance.Instance, History.History, History.instances, History.oldest, History.IsPresent}

-- What one read or clear goes past: some messages that it missed, and then `number` of them from
-- `first` on.
pub record Stretch : Type 0 where
  pub missed : ℕ
  pub first : ℕ
  pub number : ℕ

-- the reader's place after this stretch
abbrev pub next_place : Stretch → ℕ
next_place s = s.first + s.number

module _ {M : Type 0} where
  -- how many messages from the place on aren't present any more
  abbrev pub missed : History M → ℕ → ℕ
  missed h place = oldest h - place

  -- the number that the next read begins at
  abbrev pub first : History M → ℕ → ℕ
  first h place = max place (oldest h)

  -- the messages that a reader at this place wasn't given yet and still can be
  abbrev pub unread : History M → ℕ → List (Instance M)
  unread h place = drop (first h place) (instances h)

  -- the first `limit` of them, or all if there is no limit
  abbrev pub at_most : Option ℕ → List (Instance M) → List (Instance M)
  at_most None xs = xs
  at_most (Some limit) xs = take limit xs

  -- what a read gives
  abbrev pub given : History M → ℕ → Option ℕ → List (Instance M)
  given h place limit = at_most limit (unread h place)

  -- the stretch of a reader that goes past these messages, after those that it missed
  abbrev pub going_past : History M → ℕ → List (Instance M) → Stretch
  going_past h place xs =
      record { missed = missed h place; first = first h place; number = length xs }

  -- what a read goes past: what it gives
  abbrev pub read : History M → ℕ → Option ℕ → Stretch
  read h place limit = going_past h place (given h place limit)

  -- what a clear goes past: all that is unread
  abbrev pub pass_over : History M → ℕ → Stretch
  pass_over h place = going_past h place (unread h place)

-- A stretch fits a reader's place in the history of that moment.
pub record Fits {M : Type 0} (h : History M) (place : ℕ) (s : Stretch) : Type 0 where
  -- it begins at the place, past the missed ones
  pub first : s.first ≡ place + s.missed
  -- these aren't present
  pub missed : (n : ℕ) → place ≤ n → n < s.first → ¬ IsPresent h n
  -- and those that it goes past are
  pub passed : (n : ℕ) → s.first ≤ n → n < next_place s → IsPresent h n

-- Stretches fit one behind the other, each in the history of its moment, from one place to another.
abbrev pub Tile : {M : Type 0} → ℕ → List (History M × Stretch) → ℕ → Type 0
Tile from [] to = from ≡ to
Tile from (x ∷ xs) to = Fits x.0 from x.1 × Tile (next_place x.1) xs to
