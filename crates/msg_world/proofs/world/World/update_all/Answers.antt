use Rattle.std.proofs.Common.{refl, arith}
use Rattle.msg_world.specs.Prelude.{Registry}
use Rattle.msg_world.proofs.Worlds.{others_update, same_shape}
use Rattle.msg_world.proofs.world.World.update_all.Goals as goal

pub returns-in_default-clause-meaning : goal.returns-in_default-clause-meaning
returns-in_default-clause-meaning g c s stand = grind (arith, c.requires.whole Registry tt)

pub returns-clause-meaning : goal.returns-clause-meaning
returns-clause-meaning g c s stand =
    others_update _ s _ c.in-Some.marks _ c.in-Some.is (grind arith) refl
    c.update_each.ensures.updated (rw (← c.self.view_is) at stand)

pub returns-clause-shape : goal.returns-clause-shape
returns-clause-shape g c =
    let updated = c.update_each.ensures.updated in
    rw (← c.self.view_is) (same_shape _ _ (record { types = updated.length; resources = refl }) (λ t. updated.there t)
    (λ r. refl) (grind (arith, c.requires.whole Registry tt)))
