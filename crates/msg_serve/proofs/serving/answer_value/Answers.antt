use Rattle.std.proofs.Common.{inl, inr}
use Rattle.std.proofs.lemmas.Result.{on_ok_weaker}
use Rattle.serde_json.specs.View.{view}
use Rattle.msg_exec.proofs.EngineRunsFrames.{takes_posts}
use Rattle.msg_serve.specs.Requests.{readers, refused, run}
use Rattle.msg_serve.proofs.AnswersInTurn.{on_ok_both, request_fits, text_answers}
use Rattle.msg_serve.proofs.serving.answer_value.Goals as goal

pub run_frame-requires-clause-posts : goal.run_frame-requires-clause-posts
run_frame-requires-clause-posts g c κs within =
    let serves = c.requires.serves in
    (takes_posts g.X.SystemOf.meaning _ serves.now serves.stands _).1
    (rw serves.same.types (request_fits c.args.server.now.scenario.now (view c.args.value.now) c.in-Ok-Frame.frame (rw c.in-Ok-Frame.field-0-is at c.in-Ok-Frame.ensures.reads)))

pub returns-in-Ok-Frame-clause-answers : goal.returns-in-Ok-Frame-clause-answers
returns-in-Ok-Frame-clause-answers g c = on_ok_weaker c.run_frame.result
    (λ answers. (run c.in-Ok-Frame.frame, rw c.in-Ok-Frame.field-0-is at c.in-Ok-Frame.ensures.reads, answers))
    c.run_frame.ensures.answers

pub returns-in-Ok-Readers-clause-answers : goal.returns-in-Ok-Readers-clause-answers
returns-in-Ok-Readers-clause-answers g c = on_ok_weaker c.tell_readers.result
    (λ answers. (readers, rw c.in-Ok-Readers.field-0-is at c.in-Ok-Readers.ensures.reads, answers))
    c.tell_readers.ensures.answers

pub returns-in-Err-clause-answers : goal.returns-in-Err-clause-answers
returns-in-Err-clause-answers g c =
    let told = c.tell_refused.ensures in
    let after = c.tell_refused.new.server in
    on_ok_both c.tell_refused.result told.line told.refused (λ line other. elim c.in-Err.ensures.reads [
      | inl none ↦ absurd (other none)
      | inr is ↦ (
        refused after.text.items,
        (c.in-Err.fault, is, line),
        text_answers g.X.SystemOf.meaning c.args.server.now after told.engine,
      )
    ])
