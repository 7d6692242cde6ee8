use Rattle.std.proofs.Common.{◌≡◌, ◌≤◌, take, length, vec_capacity}
use Rattle.msg_world.specs.Prelude.{PartsStand, SameShape, WorldState}
use Rattle.msg_frames.specs.Prelude.{after_posts, post_replies}
use Rattle.msg_exec.proofs.posts.post_all.Given as goal

abbrev pub invariant-loop-t : goal.invariant-loop-t
invariant-loop-t g l = record {
  so_far : (w : WorldState g.V.Value.values) → PartsStand l.initial.world w
      → PartsStand l.world (after_posts (take l.t-index l.posts) w)
      × (l.replies.items ≡ post_replies (take l.t-index l.posts) w);
  shape : SameShape l.initial.world l.world;
  as_many : length l.replies.items ≡ l.t-index;
  room : length l.posts ≤ vec_capacity l.replies;
}
