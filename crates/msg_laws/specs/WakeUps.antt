-- Systems that are woken by a message and then read all, and what that assures them of.
use Rattle.std.specs.Prelude.{All, IsTrue, List, [], length, ℕ, ◌++◌, ◌<◌, ◌∷◌, ◌≡◌, ◌≤◌, ◌⊎◌}
use Rattle.msg_order.specs.Prelude.{has_joined}
use Rattle.std.specs.List.{list_any}
use Rattle.msg_buffer.specs.Prelude.{IsPresent, count}
use Rattle.msg_order.specs.declared.rule.Rule.{Rule}
use Rattle.msg_world.specs.{Prelude.Values, Prelude.WorldState, declared.part.Part.TheVariants.OfType}
use Rattle.msg_system.specs.{Prelude.BeginsTurnsWith, Prelude.Meaning, Prelude.conditions_of, Prelude.of_program, declared.condition.Probe.TheVariants.OnMessage, declared.limits.TheConstants.MAX_OPS, declared.op.Op.Op, declared.program.Program.Program, declared.start.Start.TheVariants.Current}
use Rattle.msg_frames.specs.{Frames.turn_order, Prelude.IsSoundState, Prelude.State, Prelude.after_turns_of, Prelude.before_turns, Prelude.first_state, Prelude.frame, Prelude.join_flags, Prelude.reader_place, Prelude.run, declared.frame.Frame.Frame, declared.log.Outcome.TheVariants.Skipped, declared.place.Place.Place}
use Rattle.msg_laws.specs.UpToDate.{IsUpToDate, MissesNothing, NothingDrained, reads_all}

-- The one condition of system i is that a message of type t came. What stands from the reader's
-- place to the condition's isn't present any more.
pub record IsWokenBy {V : Type 0} {values : Values V} (t i : ℕ) (s : State values) : Type 0 where
  pub place : ℕ
  pub condition : (s.members i).job.conditions
      ≡ record { condition = record { nots = 0; probe = OnMessage t }; place = place } ∷ []
  pub within : place ≤ count (s.world.histories t)
  pub behind : (n : ℕ) → reader_place s i t ≤ n → n < place → ¬ IsPresent (s.world.histories t) n

module _ {V : Type 0} {values : Values V} where
  -- nothing of type t that system i wasn't given yet is present
  abbrev pub NothingUnread : ℕ → ℕ → State values → Type 0
  NothingUnread i t s = (n : ℕ) → reader_place s i t ≤ n → n < count (s.world.histories t)
      → ¬ IsPresent (s.world.histories t) n

  -- in the frame system i was skipped
  abbrev pub IsSkipped : ℕ → Frame V → State values → Type 0
  IsSkipped i f s = All (λ turn. turn.system ≡ i → turn.outcome ≡ Skipped) (frame f s).log.turns

  -- unless system i was skipped in the frame, an op of its turn read type t without limit
  abbrev pub ReadsAllIfWoken : ℕ → ℕ → Frame V → State values → Type 0
  ReadsAllIfWoken i t f s = ¬ IsSkipped i f s
      → IsTrue (list_any (reads_all t) ((frame f s).state.members i).job.system.last)

  -- so it is in each frame of the run
  abbrev pub ReadsAllWhenWoken : ℕ → ℕ → List (Frame V) → State values → Type 0
  ReadsAllWhenWoken i t [] s = Unit {0}
  ReadsAllWhenWoken i t (f ∷ frames) s =
      ReadsAllIfWoken i t f s × ReadsAllWhenWoken i t frames (frame f s).state

-- ---- laws

-- Who has joined in a first state, reads a type, and waits for a message of it, is woken by it. It
-- is up to date too if nothing of the type was written before, or if it starts at the count.
abbrev pub WhoBeginsIsWoken : {V : Type 0} → Values V → Type 0
WhoBeginsIsWoken {V} values = (systems : List (Meaning V)) (places : List (Place V))
    (rules : List Rule) (types resources : ℕ) (world : WorldState values) (i t : ℕ)
    → let s : State values = first_state systems places rules types resources world in
    IsSoundState s → t < types → IsTrue (has_joined (join_flags s) i)
    → IsTrue ((s.members i).job.system.needs.reads (OfType t))
    → conditions_of (s.members i).job ≡ record { nots = 0; probe = OnMessage t } ∷ []
    → IsWokenBy t i s
    × ((count (world.histories t) ≡ 0) ⊎ ((s.members i).job.system.start ≡ Current)
    → IsUpToDate s i t)

-- Who is woken by a type and was skipped had nothing of it unread when its turn came.
abbrev pub WhoSleepsHasNothingUnread : {V : Type 0} → Values V → Type 0
WhoSleepsHasNothingUnread {V} values = (f : Frame V) (s : State values) (i t : ℕ)
    → IsSoundState s → t < s.types → IsTrue (has_joined (join_flags s) i) → IsWokenBy t i s
    → IsSkipped i f s
    → (earlier later : List ℕ) → turn_order (before_turns f.posts s) ≡ earlier ++ i ∷ later
    → NothingUnread i t (after_turns_of earlier (before_turns f.posts s)).state

-- Who is woken by a type and then reads all of it is woken by it after each frame too.
abbrev pub WhoIsWokenStaysSo : {V : Type 0} → Values V → Type 0
WhoIsWokenStaysSo {V} values = (f : Frame V) (s : State values) (i t : ℕ)
    → IsSoundState s → t < s.types → IsTrue (has_joined (join_flags s) i) → IsWokenBy t i s
    → ReadsAllIfWoken i t f s → IsWokenBy t i (frame f s).state

-- Who is woken by a type, then reads all of it, and is up to date, misses nothing of it, unless it
-- is drained; and so it goes on after the run.
abbrev pub NoWakeUpIsLost : {V : Type 0} → Values V → Type 0
NoWakeUpIsLost {V} values = (frames : List (Frame V)) (s : State values) (i t : ℕ)
    → IsSoundState s → t < s.types → IsTrue (has_joined (join_flags s) i)
    → IsWokenBy t i s → IsUpToDate s i t → ReadsAllWhenWoken i t frames s
    → NothingDrained t s (run frames s).state
    → MissesNothing i t frames s × IsWokenBy t i (run frames s).state
    × IsUpToDate (run frames s).state i t

-- A system whose program of at most `MAX_OPS` ops reads the type without limit reads all when it is
-- woken, and keeps its program.
abbrev pub WhoseProgramReadsAllWhenWoken : {V : Type 0} → Values V → Type 0
WhoseProgramReadsAllWhenWoken {V} values = (frames : List (Frame V)) (s : State values) (i t : ℕ)
    (program : Program V) (writer : ℕ) (places : ℕ → ℕ)
    → (s.members i).job.system ≡ of_program program writer places
    → length program.ops ≤ MAX_OPS → IsTrue (list_any (reads_all t) program.ops)
    → ReadsAllWhenWoken i t frames s

-- A system each turn of which begins with ops of which one reads the type without limit reads all
-- when it is woken.
abbrev pub WhoBeginsReadingAllWhenWoken : {V : Type 0} → Values V → Type 0
WhoBeginsReadingAllWhenWoken {V} values = (frames : List (Frame V)) (s : State values) (i t : ℕ)
    (ops : List (Op V)) → BeginsTurnsWith ops (s.members i).job.system
    → IsTrue (list_any (reads_all t) ops) → ReadsAllWhenWoken i t frames s
