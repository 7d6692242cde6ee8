-- When a post finds room.
use Rattle.std.specs.Prelude.{◌≡◌, ℕ, ◌<◌, List, take, Some, slice_get}
use Rattle.msg_buffer.specs.Prelude.{History, count}
use Rattle.msg_world.specs.declared.record.Record.{Record}
use Rattle.msg_world.specs.Prelude.{WorldState, Values}
use Rattle.msg_frames.specs.Prelude.{after_posts}

module _ {V : Type 0} where
  -- a number is left for one message more
  abbrev pub HasRoom : History (Record V) → Type 0
  HasRoom h = count h < h.limit

-- Post k finds room in its type, as the posts before it leave the world.
pub record FindsRoom {V : Type 0} {values : Values V} (posts : List (ℕ × V)) (w : WorldState values)
    (k : ℕ) : Type 0 where
  pub post : ℕ × V
  pub is_post : slice_get posts k ≡ Some post
  pub room : HasRoom ((after_posts (take k posts) w).histories post.0)

module _ {V : Type 0} {values : Values V} where
  -- one of the posts finds room
  abbrev pub SomeFindsRoom : List (ℕ × V) → WorldState values → Type 0
  SomeFindsRoom posts w = (k : ℕ) × FindsRoom posts w k
