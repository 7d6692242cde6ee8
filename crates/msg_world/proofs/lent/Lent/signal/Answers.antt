use Rattle.std.proofs.Common.{arith, refl}
use Rattle.msg_world.proofs.Worlds.{same_shape}
use Rattle.msg_world.proofs.lent.Lent.signal.Goals as goal

pub returns-clause-same : goal.returns-clause-same
returns-clause-same g c = record {
  access = refl;
  world = refl;
  shape = rw c.signal.ensures.marks
      (same_shape _ _ (record { types = refl; resources = refl }) (λ t. refl) (λ r. refl) (grind arith));
}
