-- What holds of every state that frames make.
use Rattle.std.specs.Prelude.{Bool, IsFalse, IsTrue, List, Some, length, ℕ, ◌+◌, ◌<◌, ◌≡◌, ◌≤◌}
use Rattle.msg_buffer.specs.Prelude.{IsSound, count}
use Rattle.msg_order.specs.Prelude.{IsAcyclic, rules_among, has_joined}
use Rattle.msg_frames.specs.{Entries.no_totals, Frames.State, Frames.UsesParts, Frames.join_flags, Moments.reader_place, declared.totals.Totals.Totals}
use Rattle.msg_world.specs.Prelude.{Values}

-- The account begins at a start, and all that the reader got, missed and cleared since leads to its
-- place.
pub record IsBalanced (x : Totals) (place : ℕ) : Type 0 where
  pub begin : ℕ
  pub start : x.start ≡ Some begin
  pub adds_up : begin + x.got + x.missed + x.cleared ≡ place

module _ {V : Type 0} {values : Values V} where
  -- whichever systems have joined, the rules make no cycle among them
  abbrev pub NoCycle : State values → Type 0
  NoCycle s = (joined : List Bool) → length joined ≡ s.systems
      → IsAcyclic (rules_among joined s.rules)

-- What holds of a state before and after every frame.
pub record IsSoundState {V : Type 0} {values : Values V} (s : State values) : Type 0 where
  -- each system needs only parts that a world may have
  pub uses : UsesParts s
  -- the rules of their order make no cycle
  pub no_cycle : NoCycle s
  pub histories : (t : ℕ) → t < s.types → IsSound (s.world.histories t)
  -- no reader is past the messages that there are
  pub places : (i t : ℕ) → t < s.types → reader_place s i t ≤ count (s.world.histories t)
  -- a system joins with frame 1 or later
  pub joins : (i : ℕ) → 1 ≤ (s.members i).join
  -- it writes as its number
  pub writers : (i : ℕ) → i < s.systems → (s.members i).job.system.writer ≡ i
  -- who hasn't joined was given nothing, nor was a number that is no system's
  pub waiting : (i t : ℕ) → IsFalse (has_joined (join_flags s) i) → (reader_place s i t ≡ 0)
      × ((s.members i).totals t ≡ no_totals)
  pub balanced : (i t : ℕ) → t < s.types → IsTrue (has_joined (join_flags s) i)
      → IsBalanced ((s.members i).totals t) (reader_place s i t)
