use Rattle.std.proofs.Common.{◌≡◌, map, take}
use Rattle.msg_reading.specs.Prelude.{state_of}
use Rattle.msg_serve.specs.Requests.{run}
use Rattle.msg_serve.specs.inner.Answering.{AnsweredSoFar}
use Rattle.msg_serve.proofs.tracing.trace.Given as goal

abbrev pub invariant-loop-frame : goal.invariant-loop-frame
invariant-loop-frame g l =
    let s = l.initial.server.scenario.now in
    (l.server.scenario ≡ l.initial.server.scenario)
    × AnsweredSoFar g.S.Sink.contents g.S.Sink.failures g.X.SystemOf.meaning s (state_of s)
    (map run (take l.frame-index s.frames)) l.initial.sink l.sink l.server.engine
