use Rattle.std.proofs.Common.{◌≡◌, ◌++◌, take}
use Rattle.msg_exec.specs.Prelude.{EngineStands}
use Rattle.msg_frames.specs.Prelude.{State}
use Rattle.msg_world.specs.Prelude.{i64_values}
use Rattle.msg_scenario.specs.Prelude.{accounts_text}
use Rattle.msg_scenario.proofs.reports.accounts.add_accounts.Given as goal

abbrev pub invariant-loop-account : goal.invariant-loop-account
invariant-loop-account g l =
    (state : State i64_values) → EngineStands g.X.SystemOf.meaning l.engine state
    → l.text.items ≡ l.initial.text.items ++ accounts_text l.scenario l.readers state (take l.account-index l.accounts)
