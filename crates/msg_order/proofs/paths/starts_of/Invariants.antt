use Rattle.std.proofs.Common.{true, ℕ, ◌<◌, ◌≡◌}
use Rattle.msg_order.specs.{inner.Paths.comes_before, inner.SystemSet.has}
use Rattle.msg_order.proofs.paths.starts_of.Given as goal

abbrev pub invariant-loop-j : goal.invariant-loop-j
invariant-loop-j l = (i k : ℕ) → k < l.j → comes_before l.before i k ≡ true → has l.starts i ≡ true
