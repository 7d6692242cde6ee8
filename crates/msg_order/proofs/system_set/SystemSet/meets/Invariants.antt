use Rattle.std.proofs.Common.{bit_and, get_or, ℕ, ◌<◌, ◌≡◌}
use Rattle.msg_order.proofs.system_set.SystemSet.meets.Given as goal

abbrev pub invariant-loop-i : goal.invariant-loop-i
invariant-loop-i l = (q : ℕ) → q < l.i → bit_and (get_or l.self.words q 0) (get_or l.other.words q 0) ≡ 0
