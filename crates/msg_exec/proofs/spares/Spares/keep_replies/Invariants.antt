use Rattle.std.proofs.Common.{◌≡◌, vec_len}
use Rattle.msg_exec.proofs.spares.Spares.keep_replies.Given as goal

abbrev pub invariant-loop-reply : goal.invariant-loop-reply
invariant-loop-reply g l = l.world ≡ l.initial.world

abbrev pub decreases-loop-reply : goal.decreases-loop-reply
decreases-loop-reply g l = vec_len l.replies
