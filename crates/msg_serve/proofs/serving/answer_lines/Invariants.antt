use Rattle.std.proofs.Common.{◌≡◌, IfSome, List}
use Rattle.msg_serve.specs.Prelude.{Request, after_own}
use Rattle.msg_serve.specs.inner.Answering.{AnsweredSoFar, AreAsked}
use Rattle.msg_serve.proofs.serving.answer_lines.Given as goal

abbrev pub invariant-loop-line : goal.invariant-loop-line
invariant-loop-line g l =
    let s = l.initial.server.scenario.now in
    (l.server.scenario ≡ l.initial.server.scenario)
    × ((requests : List Request)
    × AnsweredSoFar g.S.Sink.contents g.S.Sink.failures g.X.SystemOf.meaning s (after_own s) requests
    l.initial.sink l.sink l.server.engine
    × IfSome (g.I.Source.remaining l.initial.input) (λ bytes. AreAsked s bytes (g.I.Source.remaining l.input) requests))
    × (g.I.Source.failures l.input ≡ g.I.Source.failures l.initial.input)

abbrev pub decreases-loop-line : goal.decreases-loop-line
decreases-loop-line g l = g.I.Source.reads_left l.input
