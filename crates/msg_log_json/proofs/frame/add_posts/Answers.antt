use Rattle.std.proofs.Common.{arith}
use Rattle.msg_log_json.specs.Prelude.{post_json}
use Rattle.msg_log_json.proofs.Lists.{all_pairs_made, one_pair_more}
use Rattle.msg_log_json.proofs.frame.add_posts.Goals as goal

pub loop-k-preserved : goal.loop-k-preserved
loop-k-preserved c =
    one_pair_more (λ x. post_json c.args.scenario.now x.1) c.args.posts.now c.args.replies.now c.loop-k.k _ _ _ _ _ _ c.loop-k.invariant
    c.in_ok-add_comma.ensures.appends c.in_ok-add_post.ensures.appends c.index-posts-k.is c.index-replies-k.is (omega (arith, c.loop-k-test.true, c.min-k-end.ensures))

pub returns : goal.returns
returns c = record {
  appends = all_pairs_made (λ x. post_json c.args.scenario.now x.1) c.args.posts.now c.args.replies.now c.loop-k.k _ _ c.loop-k.invariant
      (omega (arith, c.loop-k-test.false, c.min-k-end.ensures));
}
