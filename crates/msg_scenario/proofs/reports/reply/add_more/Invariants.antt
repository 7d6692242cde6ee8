use Rattle.std.proofs.Common.{◌≡◌, ◌++◌, take, flat_map}
use Rattle.std.specs.List.{enumerate_from}
use Rattle.msg_scenario.specs.Prelude.{next_item}
use Rattle.msg_scenario.proofs.reports.reply.add_more.Given as goal

abbrev pub invariant-loop-k : goal.invariant-loop-k
invariant-loop-k l =
    l.text.items
    ≡ l.initial.text.items ++ flat_map (next_item l.scenario) (take l.k (enumerate_from l.fn.first l.items))
