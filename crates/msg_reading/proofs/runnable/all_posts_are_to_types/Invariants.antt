use Rattle.std.proofs.Common.{ℕ, ◌<◌, get_or, ℤ}
use Rattle.msg_frames.specs.declared.frame.Frame.{Frame}
use Rattle.msg_reading.specs.Prelude.{PostsAreToTypes}
use Rattle.msg_reading.proofs.runnable.all_posts_are_to_types.Given as goal

abbrev pub invariant-loop-frame : goal.invariant-loop-frame
invariant-loop-frame l = (k : ℕ) (d : Frame ℤ) → k < l.frame-index → PostsAreToTypes l.scenario (get_or l.frame-items k d)
