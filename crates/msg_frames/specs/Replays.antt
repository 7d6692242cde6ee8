-- A frame in another order than the settled one.
use Rattle.std.specs.Prelude.{IsPermutation, List, ℕ, ◌≡◌}
use Rattle.msg_order.specs.Prelude.{IsLawfulOrder}
use Rattle.msg_frames.specs.{Frames.State, Frames.before_turns, Frames.join_flags, Frames.settled_order, declared.frame.Frame.Frame, declared.log.Log.Log}
use Rattle.msg_world.specs.Prelude.{Values}

-- The order is lawful for a frame on the state s: it has all that will have joined, each once, and
-- keeps their settled order.
pub record IsLawfulFor {V : Type 0} {values : Values V} (f : Frame V) (s : State values)
    (order : List ℕ) : Type 0 where
  pub lawful : IsLawfulOrder (settled_order (before_turns f.posts s))
      (join_flags (before_turns f.posts s)) order

-- A log tells the same as another: what the posts were answered, and the same turns, maybe in
-- another order.
pub record TellsTheSame {V : Type 0} (log other : Log V) : Type 0 where
  pub posts : log.posts ≡ other.posts
  pub turns : IsPermutation log.turns other.turns
