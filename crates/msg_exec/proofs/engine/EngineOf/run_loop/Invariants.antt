use Rattle.std.proofs.Common.{◌≡◌, length, None}
use Rattle.msg_exec.specs.Prelude.{IsEngine, IsSpoiled}
use Rattle.msg_exec.specs.Hosts.{HasRunFor, last_log}
use Rattle.msg_exec.proofs.engine.EngineOf.run_loop.Given as goal

abbrev pub invariant-loop : goal.invariant-loop
invariant-loop g l = record {
  so_far : (far : HasRunFor g.V.Value.values g.S.SystemOf.meaning g.H.Host.gives l.most l.initial.host l.initial.self l.host l.self)
      × ((l.last ≡ last_log None far.logs) × (length far.frames ≡ l.counter));
  engine : IsEngine g.V.Value.values g.S.SystemOf.meaning l.self;
  alive : ¬ IsSpoiled l.self;
}
