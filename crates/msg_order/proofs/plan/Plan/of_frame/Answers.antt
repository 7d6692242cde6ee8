use Rattle.std.proofs.lemmas.List.{length-map}
use Rattle.msg_order.proofs.plan.Plan.of_frame.Goals as goal

pub unreachable-requires : goal.unreachable-requires
unreachable-requires c =
    let cycle = rw c.in-Err-Cycle.field-0-is at c.in-Err-Cycle.ensures.refusal in
    c.requires.no_cycle c.deref.result.now
    (rw (c.deref.ensures.value, c.in_ok-joined.ensures.joined, length-map) c.requires.one_each)
    c.in-Err-Cycle.field-0-0 cycle.on_cycle
