-- A run of frames with all that it comes to: for the lists of messages, and for each reader.
use Rattle.std.specs.Prelude.{All, Contains, IfSome, IsTrue, List, Option, Some, flat_map, if◌then◌else◌, map, option_map, slice_get, ℕ, ◌+◌, ◌-◌, ◌<◌, ◌≡◌, ◌≤◌}
use Rattle.msg_order.specs.Prelude.{has_joined}
use Rattle.std.specs.List.{range_with_len}
use Rattle.msg_buffer.specs.Prelude.{History, IsPresent, count}
use Rattle.msg_world.specs.{Prelude.Values, declared.record.Record.Record}
use Rattle.msg_frames.specs.{Steps.IsWrittenOnce, declared.frame.Frame.Frame}
use Rattle.msg_frames.specs.Entries.{ReadEntry, numbers_missed, numbers_passed, entry_numbers, refused_at, totals_from, with_entries, with_refused}
use Rattle.msg_frames.specs.Frames.{State, join_flags, run}
use Rattle.msg_frames.specs.Moments.{Moment, found_at, moments, own_steps_in, reader_place}

-- ---- what an entry says

module _ {V : Type 0} where
  -- the message of a number
  abbrev pub message_numbered : History (Record V) → ℕ → Option (Record V)
  message_numbered h n = option_map (λ e. e.message) (slice_get h.entries n)

-- The entry of a moment is true; `last` is the type's list as the run ends.
pub record IsTrueEntry {V : Type 0} (last : History (Record V)) (m : Moment V) : Type 0 where
  -- it begins at the reader's place, past those that it missed
  pub begins : m.entry.stretch.first ≡ m.place + m.entry.stretch.missed
  -- what it went past was present
  pub passed : (n : ℕ) → Contains (numbers_passed m.entry) n → IsPresent m.history n
  -- what it missed had been written by then, and wasn't present any more
  pub missed : (n : ℕ) → Contains (numbers_missed m.entry) n
      → (n < count m.history) × ¬ IsPresent m.history n
  -- and what it gave is what was written under these numbers
  pub gave : IfSome m.entry.given
      (λ items. map (message_numbered last) (numbers_passed m.entry) ≡ map Some items)

-- ---- a run

module _ {V : Type 0} {values : Values V} where
  -- the entries of a reader in a run
  abbrev pub entries_in_run : ℕ → ℕ → List (Frame V) → State values → List (ReadEntry V)
  entries_in_run i t frames s = map (λ m. m.entry) (moments i t frames s)

  -- how many messages of type t system i was refused in a run
  abbrev pub refused_in_run : ℕ → ℕ → List (Frame V) → State values → ℕ
  refused_in_run i t frames s = refused_at t (own_steps_in i frames s)

  -- where a run found a reader
  abbrev pub found_in_run : ℕ → ℕ → List (Frame V) → State values → ℕ
  found_in_run i t frames s = found_at s (run frames s).state i t

  -- the place of a reader after a run
  abbrev pub place_after_run : ℕ → ℕ → List (Frame V) → State values → ℕ
  place_after_run i t frames s = reader_place (run frames s).state i t

-- What a run did for system i in type t. One that doesn't read the type has no entry there.
pub record IsServed {V : Type 0} {values : Values V} (i t : ℕ) (frames : List (Frame V))
    (s : State values) : Type 0 where
  -- Its entries tell each number from where it was found to its place: once, in order, no other.
  pub forward : found_in_run i t frames s ≤ place_after_run i t frames s
  pub once : flat_map entry_numbers (entries_in_run i t frames s)
      ≡ range_with_len (found_in_run i t frames s)
      (place_after_run i t frames s - found_in_run i t frames s)
  -- each is true
  pub true : All (IsTrueEntry ((run frames s).state.world.histories t)) (moments i t frames s)
  -- And its totals count what they tell, and what was refused of the type, from those that it had,
  -- or new ones if it joined then.
  pub totals : ((run frames s).state.members i).totals t
      ≡ with_refused (refused_in_run i t frames s)
      (with_entries (entries_in_run i t frames s) (if has_joined (join_flags s) i
      then (s.members i).totals t else totals_from (found_in_run i t frames s)))

-- What a run comes to.
pub record IsCompleteRun {V : Type 0} {values : Values V} (frames : List (Frame V))
    (s : State values) : Type 0 where
  -- each type's list grew by exactly what was written, each message once
  pub written : (t : ℕ) → IsWrittenOnce t s.world (run frames s).steps (run frames s).state.world
  -- and each system that has joined by the end was served of each type
  pub served : (i t : ℕ) → t < s.types → IsTrue (has_joined (join_flags (run frames s).state) i)
      → IsServed i t frames s
