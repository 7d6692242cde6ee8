use Rattle.std.proofs.Common.{◌≡◌, ◌+◌, length, take}
use Rattle.msg_function.specs.Functions.{answered, written_ops}
use Rattle.msg_function.proofs.outbox.Outbox.refused_at.Given as goal

abbrev pub invariant-loop-k : goal.invariant-loop-k
invariant-loop-k g l = l.fn.place ≡ length (written_ops (take l.k l.ports) (answered l.self)) + l.before
