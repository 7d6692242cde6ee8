use Rattle.std.proofs.Common.{◌≡◌, map, take}
use Rattle.msg_exec.specs.Prelude.{EngineStands}
use Rattle.msg_reading.specs.Prelude.{state_of}
use Rattle.msg_serve.specs.Prelude.{after_requests}
use Rattle.msg_serve.specs.Requests.{run}
use Rattle.msg_serve.proofs.serving.pass_frames.Given as goal

abbrev pub invariant-loop-frame : goal.invariant-loop-frame
invariant-loop-frame g l = (l.server.scenario ≡ l.initial.server.scenario)
    × EngineStands g.X.SystemOf.meaning l.server.engine
    (after_requests (map run (take l.frame-index l.initial.server.scenario.now.frames)) (state_of l.initial.server.scenario.now))
