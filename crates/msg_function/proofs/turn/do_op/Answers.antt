use Rattle.std.proofs.Common.{refl}
use Rattle.msg_function.proofs.Steps.{one_ran}
use Rattle.msg_function.proofs.turn.do_op.Goals as goal

pub returns : goal.returns
returns g c = record {
  ran = one_ran c.args.op.now c.in_ok-run.field-0 _ _ _ _ _ _ c.in_ok-run.ensures.ran c.in_ok-run.ensures.same refl
      (rw (c.push_reserved.ensures.items, c.in_ok-reserve.ensures.items) refl);
}
