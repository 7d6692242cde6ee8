use Rattle.std.proofs.Common.{◌≡◌, ◌++◌}
use Rattle.msg_log_json.specs.Prelude.{message_json}
use Rattle.msg_log_json.proofs.Lists.{first_of}
use Rattle.msg_log_json.proofs.reply.add_messages.Given as goal

abbrev pub invariant-loop-k : goal.invariant-loop-k
invariant-loop-k l =
    l.text.items ≡ l.initial.text.items ++ first_of (λ x. message_json l.scenario x.1) l.items l.k
