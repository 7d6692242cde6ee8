-- What a buffer keeps: two halves, of messages written before the last update and since.
use Rattle.std.specs.Prelude.{◌≡◌, ℕ, ◌+◌, ◌-◌, ◌≤◌, nat_le, List, ◌++◌, length, map, slice_get, Option, None, if◌then◌else◌}
use Rattle.msg_buffer.specs.{declared.instance.Instance.Instance, History.message_of, History.numbered}

-- what contracts see of a buffer
pub record Kept (M : Type 0) : Type 0 where
  pub limit : ℕ
  -- the number of its first message, or of the next if it has none
  pub oldest : ℕ
  pub older : List (Instance M)
  pub newer : List (Instance M)

module _ {M : Type 0} where
  -- all messages that are kept, the older half first
  abbrev pub kept_instances : Kept M → List (Instance M)
  kept_instances k = k.older ++ k.newer

  -- how many messages were ever written
  abbrev pub kept_count : Kept M → ℕ
  kept_count k = k.oldest + length k.older + length k.newer

  -- these messages have the numbers n, n + 1 and so on, in order
  abbrev pub HasNumbersFrom : ℕ → List (Instance M) → Type 0
  HasNumbersFrom n xs = xs ≡ numbered n (map message_of xs)

-- the element under number n in a list whose first element has number `start`
abbrev pub get_from : {X : Type 0} → ℕ → List X → ℕ → Option X
get_from start xs n = if nat_le start n then slice_get xs (n - start) else None

-- What holds of every buffer: its halves meet, they end at the count, which is within the limit,
-- and the messages of each half have consecutive numbers.
pub record HasBounds {M : Type 0} (limit count older_start newer_start : ℕ)
    (older newer : List (Instance M))
    : Type 0 where
  pub halves_meet : older_start + length older ≡ newer_start
  pub ends_at_count : newer_start + length newer ≡ count
  pub within_limit : count ≤ limit
  pub older_numbers : HasNumbersFrom older_start older
  pub newer_numbers : HasNumbersFrom newer_start newer
