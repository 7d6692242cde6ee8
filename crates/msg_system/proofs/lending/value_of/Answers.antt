use Rattle.msg_world.specs.{declared.part.Part.TheVariants.OfResource}
use Rattle.msg_system.proofs.lending.value_of.Goals as goal

pub returns : goal.returns
returns g c = record { value = λ s stand. rw (← c.in-Some.ensures.shown) at (stand (OfResource c.args.r)) }
