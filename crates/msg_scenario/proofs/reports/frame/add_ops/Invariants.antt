use Rattle.std.proofs.Common.{◌≡◌, ◌++◌, flat_map, zip}
use Rattle.msg_scenario.specs.{Prelude.answered_line, inner.LastRead.IsInText}
use Rattle.msg_scenario.proofs.TextsByPieces.{pieces_left}
use Rattle.msg_scenario.proofs.reports.frame.add_ops.Given as goal

abbrev pub invariant-loop-start : goal.invariant-loop-start
invariant-loop-start l =
    record {
      made : l.text.items ++ pieces_left (λ p. answered_line l.scenario p.0.items p.1) l.start-iterator
          ≡ l.initial.text.items ++ flat_map (λ p. answered_line l.scenario p.0.items p.1) (zip l.starts l.replies);
      last : IsInText l.scenario l.last l.text.items;
    }
