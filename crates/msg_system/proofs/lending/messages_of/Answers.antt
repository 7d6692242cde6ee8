use Rattle.msg_world.specs.{declared.part.Part.TheVariants.OfType}
use Rattle.msg_system.proofs.lending.messages_of.Goals as goal

pub returns : goal.returns
returns g c = record { stands = λ s stand. rw (← c.in-Some.ensures.shown) at (stand (OfType c.args.t)) }
