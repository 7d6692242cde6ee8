use Rattle.std.proofs.Common.{ap, inr, sym, ◌∙◌}
use Rattle.std.proofs.lemmas.{List.drop_more, Result.err_from_is_err_and}
use Rattle.msg_reading.specs.ScenarioFormat.{keeping}
use Rattle.msg_reading.proofs.ListsInTurn.{element_more, element_refused}
use Rattle.msg_serve.specs.Requests.{names_of}
use Rattle.msg_serve.proofs.request.read_posts.Goals as goal

pub returns-in_err-post : goal.returns-in_err-post
returns-in_err-post c =
    let passed = err_from_is_err_and c.from_residual.result c.from_residual.ensures.1 in
    let item = c.index-items-n in
    let is = rw (← item.is) at (drop_more c.args.items.now _ item.result c.loop-n-test.true) in
    let names = names_of c.args.scenario.now in
    let read = sym (rw c.read_post.ensures.post at c.at_step.ensures.at_step) ∙ c.in_err-post.was in
    let refused = element_refused _ _ _ _ _ _ c.loop-n.invariant _ is names _ (inr (ap (keeping names) read)) in
    record { reads = rw (passed.1, passed.2) refused }

pub loop-n-preserved : goal.loop-n-preserved
loop-n-preserved c =
    let item = c.index-items-n in
    let is = rw (← item.is) at (drop_more c.args.items.now _ item.result c.loop-n-test.true) in
    let names = names_of c.args.scenario.now in
    let read = sym (rw c.read_post.ensures.post at c.at_step.ensures.at_step) ∙ c.in_ok-post.was in
    rw c.in_ok-push.ensures.items
    (element_more _ _ _ _ _ _ c.loop-n.invariant _ is _ _ (ap (keeping names) read))
