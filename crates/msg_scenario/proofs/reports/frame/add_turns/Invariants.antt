use Rattle.std.proofs.Common.{◌≡◌, ◌++◌, take, flat_map}
use Rattle.msg_scenario.specs.inner.{LastRead.IsInText, LineStarts.finished_turn}
use Rattle.msg_scenario.proofs.reports.frame.add_turns.Given as goal

abbrev pub invariant-loop-turn : goal.invariant-loop-turn
invariant-loop-turn l =
    record {
      made : l.text.items ≡ l.initial.text.items ++ flat_map (finished_turn l.scenario l.lines) (take l.turn-index l.turns);
      last : IsInText l.scenario l.last l.text.items;
    }
