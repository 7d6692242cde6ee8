use Rattle.std.proofs.Common.{false, ℕ, ◌<◌, ◌≡◌}
use Rattle.msg_order.specs.inner.Paths.{comes_before}
use Rattle.msg_order.proofs.paths.lowest_before_itself.Given as goal

abbrev pub invariant-loop-s : goal.invariant-loop-s
invariant-loop-s l = (r : ℕ) → r < l.s → comes_before l.before r r ≡ false
