-- What comes before the turns of a frame: systems join, types are updated, posts are written.
use Rattle.std.proofs.Common.{IsFalse, IsTrue, List, arith, ℕ, ◌<◌, ◌≡◌, ◌≤◌}
use Rattle.msg_order.specs.Prelude.{has_joined}
use Rattle.std.proofs.lemmas.{Bool.cases_Bool, Bool.Decides.nat_tests, List.FromFn.get_or-map-range_with_len, Option.unwrap_or-slice_get}
use Rattle.msg_buffer.specs.Prelude.{count}
use Rattle.msg_frames.specs.Prelude.{SameSystems, State, before_turns, counts, join_flags, joined_member, reader_place}
use Rattle.msg_frames.proofs.{HistoriesGrow.WorldGoesOn, HistoriesGrow.before_goes_on, SystemsStay.before_keeps, SystemsStay.joined_is}
use Rattle.msg_world.specs.Prelude.{Values}

-- Where system i stands among those that join: it had joined before, it joins now, or it still waits.
pub data Arrival {V : Type 0} {values : Values V} (s b : State values) (i : ℕ) : Type 0 where
  stood : IsTrue (has_joined (join_flags s) i) → IsTrue (has_joined (join_flags b) i) → b.members i ≡ s.members i
      → Arrival s b i
  comes : IsFalse (has_joined (join_flags s) i) → IsTrue (has_joined (join_flags b) i)
      → b.members i ≡ joined_member (counts s) (s.members i) → Arrival s b i
  waits : IsFalse (has_joined (join_flags s) i) → IsFalse (has_joined (join_flags b) i) → b.members i ≡ s.members i
      → Arrival s b i

-- The steps before the turns lead from s to b: the systems stay, each history goes on, and some systems join.
pub record Prepares {V : Type 0} {values : Values V} (s b : State values) : Type 0 where
  pub same : SameSystems s b
  pub world : WorldGoesOn s.world b.world
  pub arrival : (i : ℕ) → Arrival s b i

module _ {V : Type 0} {values : Values V} where
  pub prepares : (posts : List (ℕ × V)) (s : State values) → Prepares s (before_turns posts s)
  prepares posts s = record {
    same = before_keeps posts s;
    world = before_goes_on posts s;
    arrival = λ i. grind (arith, joined_is s i, joined_is (before_turns posts s) i, cases_Bool, nat_tests);
  }

  pub begun_within : (s : State values) (i t : ℕ) → t < s.types → reader_place s i t ≤ count (s.world.histories t)
      → (joined_member (counts s) (s.members i)).job.system.places t ≤ count (s.world.histories t)
  begun_within s i t below within = grind (arith, cases_Bool, get_or-map-range_with_len, unwrap_or-slice_get)
