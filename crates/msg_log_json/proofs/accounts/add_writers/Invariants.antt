use Rattle.std.proofs.Common.{◌≡◌, ◌++◌}
use Rattle.msg_log_json.specs.Prelude.{writer_json}
use Rattle.msg_log_json.proofs.Lists.{first_of}
use Rattle.msg_log_json.proofs.accounts.add_writers.Given as goal

abbrev pub invariant-loop-k : goal.invariant-loop-k
invariant-loop-k l = l.text.items ≡ l.initial.text.items ++ first_of (λ x. writer_json l.scenario x.1) l.writers l.k
