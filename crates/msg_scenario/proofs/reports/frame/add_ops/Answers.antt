use Rattle.msg_scenario.specs.Prelude.{answered_line}
use Rattle.msg_scenario.proofs.TextsByPieces.{no_pair_left}
use Rattle.msg_scenario.proofs.reports.frame.add_ops.Goals as goal

pub returns-clause-appends : goal.returns-clause-appends
returns-clause-appends c =
    no_pair_left (λ p. answered_line c.args.scenario.now p.0.items p.1) c.loop-start.start-iterator c.next.new.self
    _ _ _ c.in-None.is c.next.ensures.steps c.loop-start.invariant.made
