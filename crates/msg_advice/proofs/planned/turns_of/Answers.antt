use Rattle.std.proofs.Common.{append-nil, arith}
use Rattle.std.proofs.lemmas.{List.map-append, List.take_more, List.Folds.concat-append}
use Rattle.msg_advice.proofs.planned.turns_of.Goals as goal

pub loop-batch-preserved : goal.loop-batch-preserved
loop-batch-preserved c =
    let all = c.batches-batch-items.result.now in
    let more = take_more all c.loop-batch.batch-index c.batch-item.result c.loop-batch-test.true in
    grind (arith, more, append-nil, map-append, concat-append, c.loop-batch.invariant, c.batch-item.is, c.as_slice.ensures.value, c.in_ok-extend_from_slice.ensures.items)
