use Rattle.std.proofs.Common.{ℕ, ℤ, ◌<◌, get_or, length}
use Rattle.msg_reading.proofs.runnable.posts_are_to_types.Given as goal

abbrev pub invariant-loop-post : goal.invariant-loop-post
invariant-loop-post l = (k : ℕ) (d : ℕ × ℤ) → k < l.post-index → (get_or l.post-items k d).0 < length l.scenario.types
