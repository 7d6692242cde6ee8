use Rattle.std.proofs.Common.{◌≡◌}
use Rattle.msg_system.specs.Prelude.{inverted}
use Rattle.msg_system.proofs.guard.invert.Given as goal

abbrev pub invariant-loop-inverted : goal.invariant-loop-inverted
invariant-loop-inverted l = l.answer ≡ inverted l._inverted l.initial.answer
