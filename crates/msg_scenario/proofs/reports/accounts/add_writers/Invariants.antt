use Rattle.std.proofs.Common.{◌≡◌, ◌++◌, take}
use Rattle.msg_scenario.specs.Prelude.{writers_text}
use Rattle.msg_scenario.proofs.reports.accounts.add_writers.Given as goal

abbrev pub invariant-loop-writer : goal.invariant-loop-writer
invariant-loop-writer l =
    l.text.items ≡ l.initial.text.items ++ writers_text l.scenario (take l.writer-index l.writers)
