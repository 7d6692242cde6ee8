use Rattle.std.proofs.Common.{◌≡◌, ◌++◌, zip}
use Rattle.msg_log_json.specs.Prelude.{post_json}
use Rattle.msg_log_json.proofs.Lists.{first_of}
use Rattle.msg_log_json.proofs.frame.add_posts.Given as goal

abbrev pub invariant-loop-k : goal.invariant-loop-k
invariant-loop-k l =
    l.text.items
    ≡ l.initial.text.items ++ first_of (λ x. post_json l.scenario x.1) (zip l.posts l.replies) l.k
