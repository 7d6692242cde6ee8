use Rattle.std.proofs.Common.{◌≡◌, map, take}
use Rattle.msg_scenario.specs.Prelude.{op_start}
use Rattle.msg_scenario.proofs.reports.lines.starts_of.Given as goal

abbrev pub invariant-loop-op : goal.invariant-loop-op
invariant-loop-op l =
    map (λ start. start.items) l.starts.items ≡ map (op_start l.scenario l.name) (take l.op-index l.ops)
