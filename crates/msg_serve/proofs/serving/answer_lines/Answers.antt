use Rattle.std.proofs.Common.{[], Err, Ok, ap, arith, refl, true, ◌∙◌, ◌≡◌, ◌∷◌, ◌++◌}
use Rattle.std.proofs.lemmas.Result.{err_from_is_err_and}
use Rattle.msg_serve.specs.Prelude.{after_own}
use Rattle.msg_serve.specs.declared.serve_fault.ServeFault.TheVariants as serve_fault
use Rattle.msg_json.specs.declared.report_fault.ReportFault.TheVariants as report_fault
use Rattle.msg_serve.proofs.AnswersInTurn.{answered_more, answered_none, asked_more, asked_none, ends_before, ends_within, no_failed_put, own_keep, stopped, stopped_put}
use Rattle.msg_serve.proofs.InputLines.{takes_line}
use Rattle.msg_serve.proofs.serving.answer_lines.Goals as goal

pub loop-line-init : goal.loop-line-init
loop-line-init g c =
    let s = c.args.server.now.scenario.now in (
      refl,
      (
        [],
        answered_none g.S.Sink.contents g.S.Sink.failures g.X.SystemOf.meaning s (after_own s) c.args.sink.now
            c.args.server.now.engine c.requires.engine,
        asked_none s (g.I.Source.remaining c.args.input.now),
      ),
      refl,
    )

pub answer_next-requires-clause-serves : goal.answer_next-requires-clause-serves
answer_next-requires-clause-serves g c κs within =
    let s = c.args.server.now.scenario.now in
    let far = c.loop-line.invariant.1 in
    record {
      runnable = rw c.loop-line.invariant.0 c.requires.runnable;
      now = _;
      stands = far.1.stands;
      same = rw c.loop-line.invariant.0 (own_keep s far.0);
    }

pub returns-in_err-answer_next-clause-ends : goal.returns-in_err-answer_next-clause-ends
returns-in_err-answer_next-clause-ends g c fault came =
    let s = c.args.server.now.scenario.now in
    let far = c.loop-line.invariant.1 in
    let passed = err_from_is_err_and c.from_residual.result c.from_residual.ensures.1 in
    let why = c.in_err-answer_next.field-0.0 in
    let same : fault ≡ why = grind (arith, came, passed.1, passed.2) in
    rw same (ends_before s g.S.Sink.contents g.S.Sink.failures _ _ why _ _ _ far.0 far.2
    (c.in_err-answer_next.ensures.begun why refl) (λ IsNext. stopped g.S.Sink.contents g.S.Sink.failures g.X.SystemOf.meaning s (after_own s) far.0 _ _ _ far.1 IsNext why
    (λ is. no_failed_put report_fault.Write (c.in_err-answer_next.ensures.memory report_fault.Write (ap Err is)) refl)))

pub returns-in_err-put_answer-clause-ends : goal.returns-in_err-put_answer-clause-ends
returns-in_err-put_answer-clause-ends g c fault came =
    let s = c.args.server.now.scenario.now in
    let far = c.loop-line.invariant.1 in
    let r = c.from_residual-in_err-put_answer in
    let passed = err_from_is_err_and r.result r.ensures.1 in
    let why = c.in_err-put_answer.field-0.0 in
    let same : fault ≡ serve_fault.Report why = grind (arith, came, passed.1, passed.2) in
    let more : c.in_ok-answer_next.field-0 ≡ true = grind (arith, c.if-branch.true) in
    let next = rw c.loop-line.invariant.0 at (c.in_ok-answer_next.ensures.next (ap Ok more)) in
    let put = rw (next.2 _ far.1.stands).text at c.in_err-put_answer.ensures.put in
    rw same (ends_within s g.S.Sink.contents g.S.Sink.failures _ _ (serve_fault.Report why) _ _ _ far.0 next.0 far.2 next.1
    (takes_line _ _ (serve_fault.Report why) c.in_ok-answer_next.ensures.rest (λ is. cc)) (λ IsNext is. stopped_put g.S.Sink.contents g.S.Sink.failures g.X.SystemOf.meaning s (after_own s) far.0 _ _ _ far.1
    IsNext next.0 is why _ put))

pub loop-line-preserved : goal.loop-line-preserved
loop-line-preserved g c =
    let s = c.args.server.now.scenario.now in
    let far = c.loop-line.invariant.1 in
    let more : c.in_ok-answer_next.field-0 ≡ true = grind (arith, c.if-branch.true) in
    let next = rw c.loop-line.invariant.0 at (c.in_ok-answer_next.ensures.next (ap Ok more)) in
    let answer = next.2 _ far.1.stands in
    let put = rw answer.text at c.in_ok-put_answer.ensures.put in (
      c.in_ok-answer_next.ensures.same ∙ c.loop-line.invariant.0,
      (
        far.0 ++ next.0 ∷ [],
        answered_more g.S.Sink.contents g.S.Sink.failures g.X.SystemOf.meaning s (after_own s) far.0 _ _ _ far.1 next.0 _ _
            put.ok put.quiet answer.stands,
        asked_more s _ _ _ far.0 next.0 far.2 next.1 c.in_ok-answer_next.ensures.rest,
      ),
      c.in_ok-answer_next.ensures.input_quiet (λ is. cc) ∙ c.loop-line.invariant.2,
    )
