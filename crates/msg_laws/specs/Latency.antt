-- When readers have what was written.
use Rattle.std.specs.Prelude.{Contains, IsTrue, List, [], flat_map, ℕ, ◌<◌, ◌∷◌}
use Rattle.msg_order.specs.Prelude.{Path, has_joined}
use Rattle.msg_world.specs.{Prelude.Values, Prelude.after_update, declared.record.Record.Record}
use Rattle.msg_frames.specs.{Frames.settled_order, Prelude.IsSoundState, Prelude.State, Prelude.before_turns, Prelude.entries_in_run, Prelude.frame, Prelude.join_flags, Prelude.numbers_missed, Prelude.entry_numbers, Prelude.post_steps, Prelude.run, Prelude.written_in, declared.frame.Frame.Frame}
use Rattle.msg_laws.specs.{Fates.written_by, UpToDate.NothingDrained, UpToDate.ReadsAll}

-- In the run an entry of the reader tells message n: it was given, cleared or missed. Unless the
-- type was drained it wasn't missed.
pub record HasTaken {V : Type 0} {values : Values V} (i t n : ℕ) (frames : List (Frame V))
    (s : State values) : Type 0 where
  pub counted : Contains (flat_map entry_numbers (entries_in_run i t frames s)) n
  pub not_missed : NothingDrained t s (run frames s).state
      → ¬ Contains (flat_map numbers_missed (entries_in_run i t frames s)) n

-- What a system was told that it wrote in a frame, a reader that comes after it in the settled
-- order, and reads all, has taken in that frame.
abbrev pub LaterReadersHaveItAtOnce : {V : Type 0} → Values V → Type 0
LaterReadersHaveItAtOnce {V} values = (f : Frame V) (s : State values) (i j t : ℕ)
    → IsSoundState s → t < s.types → Path (settled_order (before_turns f.posts s)) i j
    → ReadsAll j t f s → (n : ℕ) (m : Record V)
    → Contains (written_by i t (frame f s).steps) (n, m) → HasTaken j t n (f ∷ []) s

-- What the host posted in a frame, a reader that reads all in that frame has taken by its end.
abbrev pub PostsAreTakenAtOnce : {V : Type 0} → Values V → Type 0
PostsAreTakenAtOnce {V} values = (f : Frame V) (s : State values) (j t : ℕ) → IsSoundState s
    → t < s.types → ReadsAll j t f s → (n : ℕ) (m : Record V)
    → Contains (written_in t (post_steps f.posts (after_update s.world))) (n, m)
    → HasTaken j t n (f ∷ []) s

-- What was written in a frame, each reader that has joined by its end, and reads all in the next
-- one, has taken by the end of that.
abbrev pub AllReadersHaveItNext : {V : Type 0} → Values V → Type 0
AllReadersHaveItNext {V} values = (f next : Frame V) (s : State values) (i j t : ℕ)
    → IsSoundState s → t < s.types → IsTrue (has_joined (join_flags (frame f s).state) j)
    → ReadsAll j t next (frame f s).state → (n : ℕ) (m : Record V)
    → Contains (written_by i t (frame f s).steps) (n, m) → HasTaken j t n (f ∷ (next ∷ [])) s
