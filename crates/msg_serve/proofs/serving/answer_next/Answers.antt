use Rattle.std.proofs.Common.{arith, ◌≡◌}
use Rattle.std.proofs.lemmas.Result.{err_from_is_err_and}
use Rattle.msg_serve.specs.declared.serve_fault.ServeFault.TheVariants as serve_fault
use Rattle.msg_serve.proofs.{AnswersInTurn.next_of, InputLines.takes_line}
use Rattle.msg_serve.proofs.serving.answer_next.Goals as goal

pub returns-clause-next : goal.returns-clause-next
returns-clause-next g c is =
    let answers = c.in_ok-answer_read.ensures.answers in (
      answers.0,
      next_of c.args.server.now.scenario.now (g.I.Source.remaining c.args.input.now) c.in_ok-read.read c.read_line.new.line.items
          answers.0 (λ e. absurd (grind (arith, c.eq.ensures, c.if-eq.false, e))) c.in_ok-read.ensures.line
          (λ bytes read. answers.1 bytes (rw c.as_slice.ensures.value read)),
      answers.2,
    )

pub returns-in_err-answer_read-clause-begun : goal.returns-in_err-answer_read-clause-begun
returns-in_err-answer_read-clause-begun g c fault came =
    let r = c.from_residual-in_err-answer_read in
    let passed = err_from_is_err_and r.result r.ensures.1 in
    let why = c.in_err-answer_read.field-0.0 in
    let same : fault ≡ serve_fault.Report why = grind (arith, came, passed.1, passed.2) in
    rw same (takes_line _ _ (serve_fault.Report why) c.in_ok-read.ensures.rest (λ is. cc))
