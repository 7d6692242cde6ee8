use Rattle.std.proofs.lemmas.List.{take-replicate}
use Rattle.msg_world.proofs.world.World.unlimited.Goals as goal

pub returns-clause-meaning : goal.returns-clause-meaning
returns-clause-meaning g c = rw (take-replicate _ _ _ c.requires.types) at c.new.ensures.meaning
