use Rattle.std.proofs.Common.{◌≡◌, ℕ, ◌<◌, false, get_or, length, take}
use Rattle.msg_function.specs.Functions.{answered, was_refused, written_ops}
use Rattle.msg_function.proofs.outbox.Outbox.note_refused.Given as goal

abbrev pub invariant-loop-k : goal.invariant-loop-k
invariant-loop-k g l = record {
  noted : (j : ℕ) → j < l.k → get_or l.refused j false ≡ was_refused l.ports (answered l.self) l.replies j;
  written : l.written ≡ length (written_ops (take l.k l.ports) (answered l.self));
}
