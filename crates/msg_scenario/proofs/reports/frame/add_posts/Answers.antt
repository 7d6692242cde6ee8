use Rattle.msg_scenario.specs.Prelude.{post_line}
use Rattle.msg_scenario.proofs.TextsByPieces.{no_pair_left}
use Rattle.msg_scenario.proofs.reports.frame.add_posts.Goals as goal

pub returns-clause-appends : goal.returns-clause-appends
returns-clause-appends c =
    no_pair_left (λ p. post_line c.args.scenario.now p.0.0 p.1) c.loop-t.t-iterator c.next.new.self _ _ _
    c.in-None.is c.next.ensures.steps c.loop-t.invariant
