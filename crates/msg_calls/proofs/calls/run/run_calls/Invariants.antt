use Rattle.std.proofs.Common.{◌≡◌}
use Rattle.msg_calls.specs.Prelude.{start}
use Rattle.msg_calls.proofs.CallsAreRun.{OnTheWay}
use Rattle.msg_calls.proofs.calls.run.run_calls.Given as goal

abbrev pub invariant-loop-call : goal.invariant-loop-call
invariant-loop-call g l =
    OnTheWay (g.S.Sink.contents l.initial.sink) (g.S.Sink.contents l.sink) l.messages l.cursors.items l.gathered.items
    l.call-items l.call-index (start l.calls.limit)
    × (g.S.Sink.failures l.sink ≡ g.S.Sink.failures l.initial.sink)
