use Rattle.std.proofs.Common.{◌≡◌, ◌++◌}
use Rattle.msg_log_json.specs.inner.KeptJson.{account_kept}
use Rattle.msg_log_json.proofs.Lists.{first_of}
use Rattle.msg_log_json.proofs.accounts.add_accounts.Given as goal

abbrev pub invariant-loop-k : goal.invariant-loop-k
invariant-loop-k l = l.text.items ≡ l.initial.text.items ++ first_of (λ x. account_kept l.scenario l.world x.1) l.accounts l.k
