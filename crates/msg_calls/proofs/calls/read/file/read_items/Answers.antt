use Rattle.std.proofs.lemmas.{List.drop_more, Result.err_from_is_err_and}
use Rattle.msg_calls.proofs.CallsAreRead.{calls_more, calls_refused}
use Rattle.msg_calls.proofs.calls.read.file.read_items.Goals as goal

pub returns-in_err-call-clause-calls : goal.returns-in_err-call-clause-calls
returns-in_err-call-clause-calls c =
    let passed = err_from_is_err_and c.from_residual.result c.from_residual.ensures.1 in
    let item = c.index-items-number in
    let is = rw (← item.is) at (drop_more c.args.items.now _ item.result c.loop-number-test.true) in
    rw (passed.1, passed.2) (calls_refused _ _ _ _ c.loop-number.invariant _ is _ c.in_err-call.ensures.call)

pub loop-number-preserved : goal.loop-number-preserved
loop-number-preserved c =
    let item = c.index-items-number in
    let is = rw (← item.is) at (drop_more c.args.items.now _ item.result c.loop-number-test.true) in
    let read = c.in_ok-call.ensures in
    rw (c.in_ok-push.ensures.items, c.cursors_made-made.ensures)
    (calls_more _ _ _ _ c.loop-number.invariant _ is _ read.call read.fits)
