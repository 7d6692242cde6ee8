use Rattle.std.proofs.Common.{arith, ◌≡◌}
use Rattle.std.proofs.lemmas.Result.{err_from_is_err_and}
use Rattle.msg_json.specs.declared.report_fault.ReportFault.TheVariants as report_fault
use Rattle.msg_serve.proofs.AnswersInTurn.{trace_unbegun}
use Rattle.msg_serve.proofs.tracing.trace_scenario.Goals as goal

pub returns-in_err-engine_of-clause-ends : goal.returns-in_err-engine_of-clause-ends
returns-in_err-engine_of-clause-ends g c fault came =
    let passed = err_from_is_err_and c.from_residual.result c.from_residual.ensures.1 in
    let same : fault ≡ report_fault.NoMemory = grind (arith, came, passed.1, passed.2) in
    rw same (trace_unbegun g.S.Sink.contents g.S.Sink.failures c.args.scenario.now report_fault.NoMemory _ (λ is. cc))
