use Rattle.std.proofs.Common.{◌≡◌, ◌++◌, take}
use Rattle.msg_function.specs.{Functions.answered, Ready.values_of}
use Rattle.msg_function.proofs.ready.hold_back.HoldBackFunction11.answer.Given as goal

abbrev pub invariant-loop-message : goal.invariant-loop-message
invariant-loop-message g l = record {
  every : l.self-inside.every ≡ l.initial.self-inside.every;
  left : l.self-inside.left ≡ l.initial.self-inside.left;
  kept : l.self-inside.kept.items ≡ l.initial.self-inside.kept.items ++ values_of (take l.message-index l.message-items);
  outbox : answered l.outbox ≡ answered l.initial.outbox;
}
