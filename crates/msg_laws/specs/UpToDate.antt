-- Readers that read all of a type in each frame, and what that assures them of.
use Rattle.std.specs.Prelude.{All, Bool, Contains, IsTrue, List, None, [], false, length, ℕ, ◌++◌, ◌<◌, ◌==◌, ◌∷◌, ◌≡◌, ◌≢◌, ◌≤◌}
use Rattle.msg_order.specs.Prelude.{has_joined}
use Rattle.std.specs.List.{list_any}
use Rattle.msg_buffer.specs.Prelude.{IsPresent, count, update}
use Rattle.msg_system.specs.{Prelude.BeginsTurnsWith, Prelude.of_program, declared.limits.TheConstants.MAX_OPS, declared.op.Op.Op, declared.op.Op.TheVariants.Forward, declared.op.Op.TheVariants.Read, declared.op.Op.TheVariants.Sum, declared.program.Program.Program}
use Rattle.msg_frames.specs.{Frames.turn_order, declared.frame.Frame.Frame, declared.log.Outcome.TheVariants.Skipped}
use Rattle.msg_frames.specs.Prelude.{IsSoundState, NoCycle, State, after_turns_of, before_turns, entries_in_run, frame, join_flags, reader_place, run}
use Rattle.msg_world.specs.Prelude.{Values}

module _ {V : Type 0} where
  -- the op reads the type without limit
  abbrev pub reads_all : ℕ → Op V → Bool
  reads_all t (Read u None) = u == t
  reads_all t (Forward u v) = u == t
  reads_all t (Sum u r) = u == t
  reads_all t _ = false

-- In the frame system i ran, and an op of its turn read type t without limit.
pub record ReadsAll {V : Type 0} {values : Values V} (i t : ℕ) (f : Frame V)
    (s : State values) : Type 0 where
  pub has_turn : Contains (turn_order (before_turns f.posts s)) i
  pub ran : All (λ turn. turn.system ≡ i → turn.outcome ≢ Skipped) (frame f s).log.turns
  pub read_all : IsTrue (list_any (reads_all t) ((frame f s).state.members i).job.system.last)

module _ {V : Type 0} {values : Values V} where
  -- In each frame of the run system i ran, and read type t without limit.
  abbrev pub ReadsAllInEach : ℕ → ℕ → List (Frame V) → State values → Type 0
  ReadsAllInEach i t [] s = Unit {0}
  ReadsAllInEach i t (f ∷ frames) s = ReadsAll i t f s × ReadsAllInEach i t frames (frame f s).state

  -- nothing of the type was drained from s to u
  abbrev pub NothingDrained : ℕ → State values → State values → Type 0
  NothingDrained t s u = (u.world.histories t).floor ≡ (s.world.histories t).floor

  -- All that the reader wasn't given yet will still be present after the next update.
  abbrev pub IsUpToDate : State values → ℕ → ℕ → Type 0
  IsUpToDate s i t = (n : ℕ) → reader_place s i t ≤ n → n < count (s.world.histories t)
      → IsPresent (update (s.world.histories t)) n

  -- the entries of the reader in a run miss nothing
  abbrev pub MissesNothing : ℕ → ℕ → List (Frame V) → State values → Type 0
  MissesNothing i t frames s = All (λ e. e.stretch.missed ≡ 0) (entries_in_run i t frames s)

-- ---- laws

-- A system that reads all in a frame was given or went past all that had been written when its turn
-- began.
abbrev pub WhoReadsAllCatchesUp : {V : Type 0} → Values V → Type 0
WhoReadsAllCatchesUp {V} values = (f : Frame V) (s : State values) (i t : ℕ) → IsSoundState s
    → t < s.types
    → ReadsAll i t f s → (earlier later : List ℕ)
    → turn_order (before_turns f.posts s) ≡ earlier ++ i ∷ later
    → count ((after_turns_of earlier (before_turns f.posts s)).state.world.histories t) ≤
    reader_place (frame f s).state i t

-- By the end of a frame in which it reads all, a system got or went past all written before it.
abbrev pub WhoReadsAllHasTheFrameBefore : {V : Type 0} → Values V → Type 0
WhoReadsAllHasTheFrameBefore {V} values = (f : Frame V) (s : State values) (i t : ℕ)
    → IsSoundState s → t < s.types
    → ReadsAll i t f s → count (s.world.histories t) ≤ reader_place (frame f s).state i t

-- A system that reads all in a frame is up to date after it, unless the type was drained.
abbrev pub WhoReadsAllIsUpToDate : {V : Type 0} → Values V → Type 0
WhoReadsAllIsUpToDate {V} values = (f : Frame V) (s : State values) (i t : ℕ) → IsSoundState s
    → t < s.types
    → ReadsAll i t f s → NothingDrained t s (frame f s).state → IsUpToDate (frame f s).state i t

-- A reader that is up to date misses nothing in the next frame, whatever it reads there, unless the
-- type is drained.
abbrev pub WhoIsUpToDateMissesNothing : {V : Type 0} → Values V → Type 0
WhoIsUpToDateMissesNothing {V} values = (f : Frame V) (s : State values) (i t : ℕ) → IsSoundState s
    → t < s.types
    → IsTrue (has_joined (join_flags s) i) → IsUpToDate s i t → NothingDrained t s (frame f s).state
    → MissesNothing i t (f ∷ []) s

-- A system that reads all of a type in each frame misses nothing of it after the first of them,
-- unless it is drained.
abbrev pub WhoReadsEachFrameMissesNothing : {V : Type 0} → Values V → Type 0
WhoReadsEachFrameMissesNothing {V} values = (f : Frame V) (frames : List (Frame V))
    (s : State values) (i t : ℕ) → IsSoundState s → t < s.types → ReadsAllInEach i t (f ∷ frames) s
    → NothingDrained t s (run (f ∷ frames) s).state
    → MissesNothing i t frames (frame f s).state

-- A system that has joined, has no conditions, and whose program of at most `MAX_OPS` ops reads the
-- type without limit, reads all of it in a frame, and keeps its program.
abbrev pub WhoseProgramReadsAll : {V : Type 0} → Values V → Type 0
WhoseProgramReadsAll {V} values = (f : Frame V) (s : State values) (i t : ℕ)
    (program : Program V) (writer : ℕ) (places : ℕ → ℕ)
    → NoCycle s → IsTrue (has_joined (join_flags s) i)
    → (s.members i).job ≡ record { system = of_program program writer places; conditions = [] }
    → length program.ops ≤ MAX_OPS → IsTrue (list_any (reads_all t) program.ops)
    → ReadsAll i t f s × ((later : ℕ → ℕ) × (((frame f s).state.members i).job
    ≡ record { system = of_program program writer later; conditions = [] }))

-- A system that has joined, has no conditions, and each turn of which begins with ops of which one
-- reads the type without limit, reads all of it in a frame, and its later turns begin so too.
abbrev pub WhoBeginsReadingAll : {V : Type 0} → Values V → Type 0
WhoBeginsReadingAll {V} values = (f : Frame V) (s : State values) (i t : ℕ) (ops : List (Op V))
    → NoCycle s → IsTrue (has_joined (join_flags s) i)
    → BeginsTurnsWith ops (s.members i).job.system → (s.members i).job.conditions ≡ []
    → IsTrue (list_any (reads_all t) ops)
    → ReadsAll i t f s × BeginsTurnsWith ops ((frame f s).state.members i).job.system
    × (((frame f s).state.members i).job.conditions ≡ [])
