use Rattle.std.proofs.Common.{arith, refl}
use Rattle.msg_world.specs.Prelude.{Registry}
use Rattle.msg_world.proofs.Worlds.{marks_stand, same_shape}
use Rattle.msg_world.proofs.world.World.set_held.Goals as goal

pub returns-clause-meaning : goal.returns-clause-meaning
returns-clause-meaning g c s stand =
    marks_stand _ s _ (rw (← c.self.view_is) at stand)

pub returns-clause-shape : goal.returns-clause-shape
returns-clause-shape g c =
    rw (← c.self.view_is) (same_shape _ _ (record { types = refl; resources = refl }) (λ t. refl) (λ r. refl)
    (grind (arith, c.requires.whole Registry tt)))
