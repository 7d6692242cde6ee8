use Rattle.msg_serve.proofs.AnswersInTurn.{on_ok_any}
use Rattle.msg_serve.proofs.tracing.trace_frame.Goals as goal

pub returns-clause-stands : goal.returns-clause-stands
returns-clause-stands g c =
    on_ok_any c.put_answer.result (λ now stands. (c.in_ok-run_frame.ensures.answers now stands).stands)

pub returns-clause-put : goal.returns-clause-put
returns-clause-put g c now stands =
    rw (c.in_ok-run_frame.ensures.answers now stands).text at c.put_answer.ensures.put
