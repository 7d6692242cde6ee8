use Rattle.std.proofs.Common.{refl}
use Rattle.msg_system.specs.Prelude.{needs_of}
use Rattle.msg_system.proofs.behavior_system.BehaviorSystemSystemOf.start.Goals as goal

pub returns : goal.returns
returns g c = record {
  started = rw (c.start.ensures.started (needs_of c.args.self.now.access)
      (record { reads = λ p. refl; writes = λ p. refl })) refl;
}
