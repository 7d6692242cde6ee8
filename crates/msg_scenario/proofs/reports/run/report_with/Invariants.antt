use Rattle.msg_scenario.specs.inner.SoFar.{IsAfter, ReportSoFar}
use Rattle.msg_scenario.proofs.reports.run.report_with.Given as goal

abbrev pub invariant-loop : goal.invariant-loop
invariant-loop g l =
    ReportSoFar g.S.Sink.contents g.S.Sink.failures g.X.SystemOf.meaning l.told.scenario.now l.initial.engine l.index
    l.initial.sink l.sink l.engine × IsAfter l.index l.initial.reporter l.reporter
