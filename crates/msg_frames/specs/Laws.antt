-- What holds of turns, of frames and of every run. Each law is the contract of a function in
-- src/laws.rt; that frames keep the systems is that of one in msg_laws.
use Rattle.msg_frames.specs.{CompleteRun.IsCompleteRun, Steps.answers_in, declared.frame.Frame.Frame, declared.log.Log.Log, declared.place.Place.Place}
use Rattle.msg_frames.specs.FirstState.{IsNew, before_joining, default_system, first_state}
use Rattle.msg_frames.specs.Frames.{AreAccessesOf, Member, State, UsesParts, after_joining, after_turns_of, before_turns, frame, frame_in, logged_turn, member_after, run, turn_of, with_joining}
use Rattle.msg_frames.specs.Replays.{IsLawfulFor, TellsTheSame}
use Rattle.msg_frames.specs.Soundness.{IsSoundState, NoCycle}
use Rattle.msg_buffer.specs.Prelude.{IsSound}
use Rattle.msg_order.specs.{Order.access_of, Prelude.NoneConflict, declared.rule.Rule.Rule}
use Rattle.msg_system.specs.Prelude.{Meaning, conditions_of}
use Rattle.msg_world.specs.{Prelude.Values, Prelude.WorldState, Prelude.merge, declared.access.Access.Access}
use Rattle.std.specs.List.{AllZip}
use Rattle.std.specs.Prelude.{All, AllPairs, EachIndex, List, [], if◌then◌else◌, map, slice_index_or, suc, ℕ, ◌<◌, ◌==◌, ◌∷◌, ◌≡◌, ◌≢◌, ◌≤◌}

-- ---- what stays

-- The same system: what it needs, where it starts, the number that it writes as, its conditions,
-- and when it joins. Its rule, its cursors and its accounts may be others.
pub record SameMember {V : Type 0} (m n : Member V) : Type 0 where
  pub needs : n.job.system.needs ≡ m.job.system.needs
  pub start : n.job.system.start ≡ m.job.system.start
  pub writer : n.job.system.writer ≡ m.job.system.writer
  pub conditions : conditions_of n.job ≡ conditions_of m.job
  pub join : n.join ≡ m.join

-- The same systems and rules, and as many types and resources. The world may be another, and the
-- number of frames.
pub record SameSystems {V : Type 0} {values : Values V} (s u : State values) : Type 0 where
  pub systems : u.systems ≡ s.systems
  pub members : (i : ℕ) → SameMember (s.members i) (u.members i)
  pub rules : u.rules ≡ s.rules
  pub types : u.types ≡ s.types
  pub resources : u.resources ≡ s.resources

-- A frame keeps the systems: as some join, as it begins, before its turns and after them. It
-- counts as one frame.
pub record FrameKeeps {V : Type 0} {values : Values V} (order : List ℕ) (frame : Frame V)
    (s : State values) : Type 0 where
  pub with_joiners : (k : ℕ) → SameSystems s (with_joining k s)
  pub as_it_begins : SameSystems s (after_joining s)
  pub before : SameSystems s (before_turns frame.posts s)
  pub after : SameSystems s (frame_in order frame s).state
  pub counted_before : (before_turns frame.posts s).frames ≡ suc s.frames
  pub counted : (frame_in order frame s).state.frames ≡ suc s.frames

-- Each frame keeps the systems.
abbrev pub FramesKeepSystems : {V : Type 0} → Values V → Type 0
FramesKeepSystems {V} values = (order : List ℕ) (frame : Frame V) (s : State values)
    → FrameKeeps order frame s

-- ---- turns side by side

module _ {V : Type 0} where
  -- the members, with another one as number i
  abbrev pub with_member : (ℕ → Member V) → ℕ → Member V → ℕ → Member V
  with_member members i m = λ k. if k == i then m else members k

module _ {V : Type 0} {values : Values V} where
  -- the state s with system i as its turn on the state `start` left it, and with what that wrote
  abbrev pub home : List Access → State values → ℕ → State values → State values
  home accesses start i s = record s {
    members = with_member s.members i (member_after (turn_of start i) (start.members i));
    world = merge (access_of accesses i) (turn_of start i).world s.world;
  }

  -- the state s with each of these as its turn on the state `start` left it, and what that wrote
  abbrev pub all_home : List Access → State values → List ℕ → State values → State values
  all_home accesses start [] s = s
  all_home accesses start (i ∷ is) s = all_home accesses start is (home accesses start i s)

-- Jobs of which no two conflict may each run on the state as it was at the start, if what they
-- wrote is merged afterwards: the log and the state are those of one turn after the other.
abbrev pub BatchesRunSideBySide : {V : Type 0} → Values V → Type 0
BatchesRunSideBySide values = (s : State values) (accesses : List Access) (batch : List ℕ)
    → AreAccessesOf s accesses
    → All (λ i. i < s.systems) batch → AllPairs (λ i j. i ≢ j) batch → NoneConflict accesses batch
    → ((after_turns_of batch s).turns ≡ map (logged_turn s) batch)
    × ((after_turns_of batch s).state ≡ all_home accesses s batch s)

-- ---- turns in other orders

-- In any lawful order a frame's turns come out alike, and it leaves the same state.
abbrev pub FramesAgreeInLawfulOrders : {V : Type 0} → Values V → Type 0
FramesAgreeInLawfulOrders {V} values = (f : Frame V) (s : State values) (accesses : List Access)
    (order : List ℕ) → UsesParts s → NoCycle s → AreAccessesOf s accesses → IsLawfulFor f s order
    → ((frame_in order f s).state ≡ (frame f s).state)
    × TellsTheSame (frame_in order f s).log (frame f s).log

-- ---- soundness

-- A frame on a sound state leaves a sound state.
abbrev pub FrameStaysSound : {V : Type 0} → Values V → Type 0
FrameStaysSound {V} values = (f : Frame V) (s : State values) → IsSoundState s
    → IsSoundState (frame f s).state

-- A run from a sound state leaves a sound state.
abbrev pub RunStaysSound : {V : Type 0} → Values V → Type 0
RunStaysSound {V} values = (frames : List (Frame V)) (s : State values) → IsSoundState s
    → IsSoundState (run frames s).state

-- Systems that were given nothing yet, each of its own number, places for them, and rules that make
-- no cycle, over a sound world.
pub record AreNew {V : Type 0} {values : Values V} (systems : List (Meaning V))
    (places : List (Place V)) (rules : List Rule) (types resources : ℕ)
    (world : WorldState values) : Type 0 where
  -- each needs only parts that a world may have
  pub uses : UsesParts (before_joining systems places rules types resources world)
  pub no_cycle : NoCycle (before_joining systems places rules types resources world)
  pub histories : (t : ℕ) → t < types → IsSound (world.histories t)
  pub new : EachIndex systems (λ i. IsNew i (slice_index_or systems i default_system))
  pub joins : All (λ place. 1 ≤ place.join) places

-- The first state of new systems over a sound world is sound.
abbrev pub FirstIsSound : {V : Type 0} → Values V → Type 0
FirstIsSound {V} values = (systems : List (Meaning V)) (places : List (Place V)) (rules : List Rule)
    (types resources : ℕ) (world : WorldState values)
    → AreNew systems places rules types resources world
    → IsSoundState (first_state systems places rules types resources world)

-- ---- complete runs

-- Every run is complete.
abbrev pub RunsAreComplete : {V : Type 0} → Values V → Type 0
RunsAreComplete {V} values = (frames : List (Frame V)) (s : State values) → IsSoundState s
    → IsCompleteRun frames s

-- ---- replays

-- Logs that tell the same as those of a run tell each system what the run tells it: so do the logs
-- of an engine that replayed some of the frames.
abbrev pub ReplaysTellTheSame : {V : Type 0} → Values V → Type 0
ReplaysTellTheSame {V} values = (frames : List (Frame V)) (s : State values) (logs : List (Log V))
    → AllZip TellsTheSame logs (run frames s).logs → (i : ℕ)
    → answers_in i logs ≡ answers_in i (run frames s).logs
