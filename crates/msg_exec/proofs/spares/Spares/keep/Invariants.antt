use Rattle.std.proofs.Common.{◌≡◌, vec_len}
use Rattle.msg_exec.proofs.spares.Spares.keep.Given as goal

abbrev pub invariant-loop-turn : goal.invariant-loop-turn
invariant-loop-turn g l = l.world ≡ l.initial.world

abbrev pub decreases-loop-turn : goal.decreases-loop-turn
decreases-loop-turn g l = vec_len l.turns
