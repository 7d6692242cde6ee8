use Rattle.std.proofs.Common.{[], arith, ◌≡◌}
use Rattle.std.proofs.lemmas.Result.{err_from_is_err_and}
use Rattle.msg_serve.specs.Prelude.{after_own}
use Rattle.msg_serve.specs.declared.serve_fault.ServeFault.TheVariants as serve_fault
use Rattle.msg_json.specs.declared.report_fault.ReportFault.TheVariants as report_fault
use Rattle.msg_serve.proofs.InputLines.{takes_none}
use Rattle.msg_serve.proofs.AnswersInTurn.{asked_none, ends_before, unbegun}
use Rattle.msg_serve.proofs.from_bytes.serve_systems.Goals as goal

pub returns-in_err-systems-clause-ends : goal.returns-in_err-systems-clause-ends
returns-in_err-systems-clause-ends g c fault came =
    let s = c.args.scenario.now in
    let passed = err_from_is_err_and c.from_residual.result c.from_residual.ensures.1 in
    let why = serve_fault.Report report_fault.NoMemory in
    let same : fault ≡ why = grind (arith, came, passed.1, passed.2) in
    let known = g.I.Source.remaining c.args.input.now in
    rw same (ends_before s g.S.Sink.contents g.S.Sink.failures _ _ why known known known [] (asked_none s known)
    (takes_none known why) (λ IsNext. unbegun g.S.Sink.contents g.S.Sink.failures s (after_own s) IsNext why _ (λ is. cc)))
