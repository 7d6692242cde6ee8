use Rattle.std.proofs.Common.{◌≡◌, map, take}
use Rattle.msg_scenario.specs.inner.LineStarts.{lines_of, texts_in}
use Rattle.msg_scenario.proofs.reports.lines.make_lines.Given as goal

abbrev pub invariant-loop-system : goal.invariant-loop-system
invariant-loop-system l =
    map texts_in l.lines.items ≡ map (lines_of l.scenario) (take l.system-index l.systems)
