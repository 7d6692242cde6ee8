-- What a run did for each reader, message by message, and what its logs tell of that.
use Rattle.std.specs.List.{Sorted.IsStrictlyIncreasing, enumerate_from}
use Rattle.msg_order.specs.Prelude.{has_joined}
use Rattle.std.specs.Prelude.{All, Contains, IsTrue, List, Some, [], filter, flat_map, length, map, slice_get, unwrap_or, ℕ, ◌+◌, ◌<◌, ◌==◌, ◌≡◌, ◌≤◌, ◌⊎◌}
use Rattle.msg_buffer.specs.Prelude.{History, IsPresent, Tile, count}
use Rattle.msg_world.specs.{Prelude.Values, declared.record.Record.Record}
use Rattle.msg_system.specs.Prelude.{Meaning, Step}
use Rattle.msg_frames.specs.{declared.frame.Frame.Frame, declared.log.Log.Log}
use Rattle.msg_frames.specs.Prelude.{GivesItsStretch, IsCompleteRun, IsServed, IsSoundState, Moment, ReadEntry, State, answers_in, entries_in_run, entries_of_turns, found_at, join_flags, message_numbered, moments, numbers_cleared, numbers_given, numbers_missed, reader_place, run, written_in}

-- ---- the entries that logs have

module _ {V : Type 0} where
  -- the entries for type t that the logs have of system i; m is what it meant before them
  abbrev pub log_entries : ℕ → ℕ → Meaning V → List (Log V) → List (ReadEntry V)
  log_entries i t m logs = entries_of_turns t m.needs m.rule (answers_in i logs)

-- The logs of a run tell the entries of each reader.
abbrev pub LogsTellEntries : {V : Type 0} → Values V → Type 0
LogsTellEntries {V} values = (i t : ℕ) (frames : List (Frame V)) (s : State values)
    → log_entries i t (s.members i).job.system (run frames s).logs ≡ entries_in_run i t frames s

-- ---- fates

-- A reader is given a message, or it clears it, or it misses it.
pub data Fate : Type 0 where
  given : Fate
  cleared : Fate
  missed : Fate

module _ {V : Type 0} where
  -- the numbers of the messages that met a fate at an entry
  abbrev pub numbers_at : Fate → ReadEntry V → List ℕ
  numbers_at given e = numbers_given e
  numbers_at cleared e = numbers_cleared e
  numbers_at missed e = numbers_missed e

  -- the numbers of those that met a fate at any entry, in the order of the entries
  abbrev pub numbers_of : Fate → List (ReadEntry V) → List ℕ
  numbers_of fate es = flat_map (numbers_at fate) es

  -- what a reader was given, message by message, in the order of its reads
  abbrev pub messages_given : List (ReadEntry V) → List (Record V)
  messages_given es = flat_map (λ e. unwrap_or e.given []) es

  -- and each message with its number
  abbrev pub numbered_given : List (ReadEntry V) → List (ℕ × Record V)
  numbered_given es = flat_map (λ e. enumerate_from e.stretch.first (unwrap_or e.given [])) es

-- Message number n met this fate at entry k.
pub record Meets {V : Type 0} (es : List (ReadEntry V)) (n k : ℕ) (fate : Fate) : Type 0 where
  pub entry : ReadEntry V
  pub is_entry : slice_get es k ≡ Some entry
  pub among : Contains (numbers_at fate entry) n

-- Message number n met one fate at one entry, and no other there or elsewhere.
pub record MeetsOneFate {V : Type 0} (es : List (ReadEntry V)) (n : ℕ) : Type 0 where
  pub entry : ℕ
  pub fate : Fate
  pub met : Meets es n entry fate
  pub only : (k : ℕ) (other : Fate) → Meets es n k other → (k ≡ entry) × (other ≡ fate)

-- ---- what was given

-- What the entries of these moments say of the messages from one place to another; `last` is the
-- type's list as the run ends.
pub record IsGivenOnce {V : Type 0} (es : List (ReadEntry V)) (ms : List (Moment V)) (from to : ℕ)
    (last : History (Record V)) : Type 0 where
  -- each message was given, or cleared, or missed: one of these, and once
  pub each : (n : ℕ) → from ≤ n → n < to → MeetsOneFate es n
  -- and no message before or after them was
  pub no_other : (n k : ℕ) (fate : Fate) → Meets es n k fate → (from ≤ n) × (n < to)
  -- those given came in order of writing
  pub in_order : IsStrictlyIncreasing (numbers_of given es)
  -- and what was given is what was written
  pub as_written : map (message_numbered last) (numbers_of given es) ≡ map Some (messages_given es)
  -- a message that was missed had been written by that moment, and wasn't present any more
  pub dropped : All (λ m. (n : ℕ) → Contains (numbers_at missed m.entry) n → (n < count m.history)
      × ¬ IsPresent m.history n) ms
  -- and so they add up
  pub adds_up : from + length (numbers_of given es) + length (numbers_of missed es) + length
      (numbers_of cleared es) ≡ to

-- A reader that a run served was given each message once.
abbrev pub EachMeetsOneFate : {V : Type 0} → Values V → Type 0
EachMeetsOneFate {V} values = (i t : ℕ) (frames : List (Frame V)) (s : State values)
    → IsServed i t frames s
    → IsGivenOnce (entries_in_run i t frames s) (moments i t frames s)
    (found_at s (run frames s).state i t) (reader_place (run frames s).state i t)
    ((run frames s).state.world.histories t)

-- ---- writer by writer

module _ {V : Type 0} {values : Values V} where
  -- what this writer was told that it wrote to type t
  abbrev pub written_by : ℕ → ℕ → List (ℕ × Step values) → List (ℕ × Record V)
  written_by writer t steps = written_in t (filter (λ x. x.0 == writer) steps)

-- A reader was given messages of this writer as it wrote them, in a run of these steps that found
-- so many messages.
pub record IsInOrderOf {V : Type 0} {values : Values V} (writer t : ℕ) (es : List (ReadEntry V))
    (found : ℕ)
    (steps : List (ℕ × Step values)) : Type 0 where
  -- each was there before, or the writer was told in the run that it wrote it, under that number
  pub as_told : (n : ℕ) (m : Record V) → Contains (numbered_given es) (n, m) → m.writer ≡ writer
      → (n < found) ⊎ Contains (written_by writer t steps) (n, m)
  -- and it was told its numbers in order, as the reader is given them
  pub in_order : IsStrictlyIncreasing (map (λ x. x.0) (written_by writer t steps))

-- So it is in every complete run, for each writer.
abbrev pub WritersInOrder : {V : Type 0} → Values V → Type 0
WritersInOrder {V} values = (frames : List (Frame V)) (s : State values) → IsCompleteRun frames s
    → (i t : ℕ)
    → t < s.types → IsTrue (has_joined (join_flags (run frames s).state) i) → (writer : ℕ)
    → IsInOrderOf writer t (entries_in_run i t frames s) (count (s.world.histories t))
    (run frames s).steps

-- ---- tiles

-- The reads and clears of a reader in a run tile, and what each gave is the messages there.
pub record IsTiled {V : Type 0} {values : Values V} (i t : ℕ) (frames : List (Frame V))
    (s : State values) : Type 0 where
  pub tile : Tile (found_at s (run frames s).state i t)
      (map (λ m. (m.history, m.entry.stretch)) (moments i t frames s))
      (reader_place (run frames s).state i t)
  pub gives : All GivesItsStretch (moments i t frames s)

-- So it is for each reader that has joined by the end.
abbrev pub ReadersTile : {V : Type 0} → Values V → Type 0
ReadersTile {V} values = (frames : List (Frame V)) (s : State values) → IsSoundState s → (i t : ℕ)
    → t < s.types
    → IsTrue (has_joined (join_flags (run frames s).state) i) → IsTiled i t frames s
