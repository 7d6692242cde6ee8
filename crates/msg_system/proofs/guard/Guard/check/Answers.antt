use Rattle.msg_world.specs.{declared.part.Part.TheVariants.OfResource, declared.part.Part.TheVariants.OfType}
use Rattle.msg_system.proofs.Runs.{same_part_refl}
use Rattle.msg_system.proofs.guard.Guard.check.Goals as goal

pub messages_of-messages-requires : goal.messages_of-messages-requires
messages_of-messages-requires g c =
    let p = OfType c.in-OnMessage.t in
    record { lent = c.requires.covers.reads p (rw (← c.self.view_is, c.in-OnMessage.is) (same_part_refl p)) }

pub value_of-requires : goal.value_of-requires
value_of-requires g c =
    let p = OfResource c.in-ResourceEquals.r in
    record { lent = c.requires.covers.reads p (rw (← c.self.view_is, c.in-ResourceEquals.is) (same_part_refl p)) }
