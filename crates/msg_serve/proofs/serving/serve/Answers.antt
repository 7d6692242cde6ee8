use Rattle.std.proofs.Common.{[], arith, ◌∙◌, ◌≡◌}
use Rattle.std.proofs.lemmas.Result.{err_from_is_err_and}
use Rattle.msg_exec.proofs.EngineRunsFrames.{is_sound}
use Rattle.msg_frames.proofs.ReaderOverRun.{runs_are_complete}
use Rattle.msg_reading.specs.Prelude.{state_of}
use Rattle.msg_serve.specs.Prelude.{after_own}
use Rattle.msg_serve.specs.Requests.{readers}
use Rattle.msg_serve.specs.declared.serve_fault.ServeFault.TheVariants as serve_fault
use Rattle.msg_serve.proofs.AnswersInTurn.{asked_none, ends_after, ends_before, no_failed_put, own_keep, served, stopped, stopped_put, unbegun}
use Rattle.msg_serve.proofs.InputLines.{takes_none}
use Rattle.msg_serve.proofs.serving.serve.Goals as goal

pub returns-in_err-pass_frames-clause-ends : goal.returns-in_err-pass_frames-clause-ends
returns-in_err-pass_frames-clause-ends g c fault came =
    let s = c.args.server.now.scenario.now in
    let passed = err_from_is_err_and c.from_residual.result c.from_residual.ensures.1 in
    let why = c.in_err-pass_frames.field-0.0 in
    let same : fault ≡ serve_fault.Report why = grind (arith, came, passed.1, passed.2) in
    let known = g.I.Source.remaining c.args.input.now in
    rw same (ends_before s g.S.Sink.contents g.S.Sink.failures _ _ (serve_fault.Report why) known known known [] (asked_none s known)
    (takes_none known (serve_fault.Report why)) (λ IsNext. unbegun g.S.Sink.contents g.S.Sink.failures s (after_own s) IsNext (serve_fault.Report why) _
    (no_failed_put why c.in_err-pass_frames.ensures.memory)))

pub tell_readers-requires : goal.tell_readers-requires
tell_readers-requires g c =
    let s = c.args.server.now.scenario.now in
    let far = rw c.in_ok-pass_frames.ensures.same at c.in_ok-answer_lines.ensures.ok in
    let scenario = c.in_ok-answer_lines.ensures.same ∙ c.in_ok-pass_frames.ensures.same in
    record {
      serves = record {
        runnable = rw scenario c.requires.runnable;
        now = _;
        stands = far.1.stands;
        same = rw scenario (own_keep s far.0);
      };
    }

pub returns-in_err-tell_readers-clause-ends : goal.returns-in_err-tell_readers-clause-ends
returns-in_err-tell_readers-clause-ends g c fault came =
    let s = c.args.server.now.scenario.now in
    let far = rw c.in_ok-pass_frames.ensures.same at c.in_ok-answer_lines.ensures.ok in
    let r = c.from_residual-in_err-tell_readers in
    let passed = err_from_is_err_and r.result r.ensures.1 in
    let why = c.in_err-tell_readers.field-0.0 in
    let same : fault ≡ serve_fault.Report why = grind (arith, came, passed.1, passed.2) in
    rw same (ends_after s g.S.Sink.contents g.S.Sink.failures _ _ (serve_fault.Report why) _ _ far.0 far.2
    c.in_ok-answer_lines.ensures.all_read (λ IsNext _. stopped g.S.Sink.contents g.S.Sink.failures g.X.SystemOf.meaning s (after_own s) far.0 _ _ _ far.1 IsNext
    (serve_fault.Report why) (no_failed_put why c.in_err-tell_readers.ensures.memory)))

pub returns-in_err-put_answer-clause-ends : goal.returns-in_err-put_answer-clause-ends
returns-in_err-put_answer-clause-ends g c fault came =
    let s = c.args.server.now.scenario.now in
    let far = rw c.in_ok-pass_frames.ensures.same at c.in_ok-answer_lines.ensures.ok in
    let r = c.from_residual-in_err-put_answer in
    let passed = err_from_is_err_and r.result r.ensures.1 in
    let why = c.in_err-put_answer.field-0.0 in
    let same : fault ≡ serve_fault.Report why = grind (arith, came, passed.1, passed.2) in
    let scenario = c.in_ok-answer_lines.ensures.same ∙ c.in_ok-pass_frames.ensures.same in
    let text = rw scenario at ((c.in_ok-tell_readers.ensures.answers _ far.1.stands).text) in
    let put = rw text at c.in_err-put_answer.ensures.put in
    rw same (ends_after s g.S.Sink.contents g.S.Sink.failures _ _ (serve_fault.Report why) _ _ far.0 far.2
    c.in_ok-answer_lines.ensures.all_read (λ IsNext is. stopped_put g.S.Sink.contents g.S.Sink.failures g.X.SystemOf.meaning s (after_own s) far.0 _ _ _ far.1
    IsNext readers is why _ put))

pub returns-clause-ok : goal.returns-clause-ok
returns-clause-ok g c =
    let s = c.args.server.now.scenario.now in
    let far = rw c.in_ok-pass_frames.ensures.same at c.in_ok-answer_lines.ensures.ok in
    let scenario = c.in_ok-answer_lines.ensures.same ∙ c.in_ok-pass_frames.ensures.same in
    let text = rw scenario at ((c.in_ok-tell_readers.ensures.answers _ far.1.stands).text) in
    let put = rw text at c.in_ok-put_answer.ensures.put in
    served g.S.Sink.contents g.S.Sink.failures s g.X.SystemOf.meaning _ _ _ far.0 far.1 _ _
    (λ frames. runs_are_complete frames (state_of s) (is_sound g.X.SystemOf.meaning _ _ c.requires.engine)) far.2 put.ok
