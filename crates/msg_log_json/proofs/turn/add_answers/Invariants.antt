use Rattle.std.proofs.Common.{◌≡◌, ◌++◌, zip}
use Rattle.msg_log_json.specs.Prelude.{answer_json}
use Rattle.msg_log_json.proofs.Lists.{first_of}
use Rattle.msg_log_json.proofs.turn.add_answers.Given as goal

abbrev pub invariant-loop-k : goal.invariant-loop-k
invariant-loop-k l =
    l.text.items
    ≡ l.initial.text.items ++ first_of (λ x. answer_json l.scenario x.1) (zip l.ops l.replies) l.k
