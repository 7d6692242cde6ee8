use Rattle.std.proofs.lemmas.Result.{on_ok_weaker}
use Rattle.msg_serve.specs.Requests.{refused}
use Rattle.msg_serve.proofs.AnswersInTurn.{not_json_asks, text_answers, value_asks}
use Rattle.msg_serve.proofs.serving.answer_line.Goals as goal

pub returns-in-Err-NotJson-clause-answers : goal.returns-in-Err-NotJson-clause-answers
returns-in-Err-NotJson-clause-answers g c =
    let told = c.tell_not_json.ensures in
    let after = c.tell_not_json.new.server in
    let other = rw c.in-Err-NotJson.field-0-is at c.in-Err-NotJson.ensures.unread in
    on_ok_weaker c.tell_not_json.result (λ line. (
      refused after.text.items,
      not_json_asks c.args.server.now.scenario.now c.args.line.now after.text.items _ c.requires.short other line,
      text_answers g.X.SystemOf.meaning c.args.server.now after told.engine,
    )) told.line

pub returns-in-Ok-clause-answers : goal.returns-in-Ok-clause-answers
returns-in-Ok-clause-answers g c = on_ok_weaker c.answer_value.result
    (λ h. (h.0, value_asks c.args.server.now.scenario.now c.args.line.now _ h.0 c.requires.short c.in-Ok.ensures.ok h.1, h.2))
    c.answer_value.ensures.answers
