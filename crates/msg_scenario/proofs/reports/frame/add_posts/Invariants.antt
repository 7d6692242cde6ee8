use Rattle.std.proofs.Common.{◌≡◌, ◌++◌}
use Rattle.msg_scenario.specs.Prelude.{post_line, posts_text}
use Rattle.msg_scenario.proofs.TextsByPieces.{pieces_left}
use Rattle.msg_scenario.proofs.reports.frame.add_posts.Given as goal

abbrev pub invariant-loop-t : goal.invariant-loop-t
invariant-loop-t l =
    l.text.items ++ pieces_left (λ p. post_line l.scenario p.0.0 p.1) l.t-iterator
    ≡ l.initial.text.items ++ posts_text l.scenario l.posts l.replies
