use Rattle.std.proofs.lemmas.{Grind.common_steps, Result.on_err_weaker, Result.on_ok_weaker}
use Rattle.std.proofs.Common.{◌∙◌, arith}
use Rattle.msg_json.proofs.Puts.{on_err}
use Rattle.msg_calls.proofs.CallsAreRun.{OnTheWay_ends, OnTheWay_fails, OnTheWay_more, OnTheWay_short, OnTheWay_stops, text_is}
use Rattle.msg_calls.proofs.calls.run.run_calls.Goals as goal

pub returns-in_err-answer_next-clause-prefix : goal.returns-in_err-answer_next-clause-prefix
returns-in_err-answer_next-clause-prefix g c =
    on_err _ c.from_residual.result _
    (OnTheWay_fails _ _ _ _ _ _ _ c.call-item.result _ c.loop-call.invariant.0 c.loop-call-test.true _ _
    (λ s are. rw (← c.call-item.is) (c.in_err-answer_next.ensures.prefix s are))
    (text_is c.args.calls.now _ c.calls-call-items.ensures.same))

pub returns-in_err-answer_next-clause-lines : goal.returns-in_err-answer_next-clause-lines
returns-in_err-answer_next-clause-lines g c is =
    OnTheWay_short _ _ _ _ _ _ c.args.calls.now _ _ c.loop-call.invariant.0 c.calls-call-items.ensures.same
    c.loop-call-test.true (c.in_err-answer_next.ensures.lines (grind (arith, common_steps, is, c.from_residual.ensures)))

pub loop-call-preserved : goal.loop-call-preserved
loop-call-preserved g c = (
  OnTheWay_more _ _ _ _ _ _ _ c.call-item.result _ c.loop-call.invariant.0 c.loop-call-test.true _ _ _ _
      (λ s are. rw (← c.call-item.is) (c.in_ok-answer_next.ensures.state s are))
      (λ s are. rw (← c.call-item.is) (c.in_ok-answer_next.ensures.ok s are)),
  c.in_ok-answer_next.ensures.quiet ∙ c.loop-call.invariant.1,
)

pub returns-clause-ok : goal.returns-clause-ok
returns-clause-ok g c =
    on_ok_weaker _ (OnTheWay_ends _ _ _ _ _ _ c.args.calls.now _ _ c.loop-call.invariant.0 c.calls-call-items.ensures.same
    c.loop-call-test.false)
    (rw c.as_slice.ensures.value at c.put_text.ensures.put.ok)

pub returns-clause-prefix : goal.returns-clause-prefix
returns-clause-prefix g c =
    on_err_weaker _ (OnTheWay_stops _ _ _ _ _ _ c.args.calls.now _ _ c.loop-call.invariant.0 c.calls-call-items.ensures.same
    c.loop-call-test.false)
    (rw c.as_slice.ensures.value at c.put_text.ensures.put.part)
