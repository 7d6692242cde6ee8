use Rattle.std.proofs.lemmas.{List.drop_more, Result.err_from_is_err_and}
use Rattle.msg_reading.proofs.ListsInTurn.{element_more, element_refused}
use Rattle.msg_reading.proofs.read.list.read_items.Goals as goal

pub returns-in_err-element : goal.returns-in_err-element
returns-in_err-element g c =
    let passed = err_from_is_err_and c.from_residual.result c.from_residual.ensures.1 in
    let item = c.index-items-n in
    let is = rw (← item.is) at (drop_more c.args.items.now _ item.result c.loop-n-test.true) in
    let refused = element_refused _ _ _ _ _ _ c.loop-n.invariant _ is c.read.new.names _ c.in_err-element.ensures.reads in
    record { reads = rw (passed.1, passed.2) refused }

pub loop-n-preserved : goal.loop-n-preserved
loop-n-preserved g c =
    let item = c.index-items-n in
    let is = rw (← item.is) at (drop_more c.args.items.now _ item.result c.loop-n-test.true) in
    rw c.in_ok-push.ensures.items
    (element_more _ _ _ _ _ _ c.loop-n.invariant _ is _ _ c.in_ok-element.ensures.reads)
