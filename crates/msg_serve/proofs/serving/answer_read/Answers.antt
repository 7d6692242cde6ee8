use Rattle.std.proofs.Common.{inl}
use Rattle.std.proofs.lemmas.Result.{on_ok_weaker}
use Rattle.msg_serve.specs.Requests.{refused}
use Rattle.msg_serve.proofs.AnswersInTurn.{text_answers}
use Rattle.msg_serve.proofs.serving.answer_read.Goals as goal

pub returns-in-Whole-clause-answers : goal.returns-in-Whole-clause-answers
returns-in-Whole-clause-answers g c = on_ok_weaker c.answer_line.result
    (λ h. (h.0, (λ bytes read. rw (← (rw c.in-Whole.is at read).1) h.1), h.2)) c.answer_line.ensures.answers

pub returns-in-TooLong-clause-answers : goal.returns-in-TooLong-clause-answers
returns-in-TooLong-clause-answers g c =
    let told = c.tell_too_long.ensures in
    let after = c.tell_too_long.new.server in
    on_ok_weaker c.tell_too_long.result (λ line. (
      refused after.text.items,
      (λ bytes read. inl (rw c.in-TooLong.is at read, line)),
      text_answers g.X.SystemOf.meaning c.args.server.now after told.engine,
    )) told.line
