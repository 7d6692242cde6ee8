use Rattle.msg_world.specs.Prelude.{OfType}
use Rattle.msg_world.proofs.world.World.counts.Goals as goal

pub returns-clause-meaning : goal.returns-clause-meaning
returns-clause-meaning g c s stand t lt =
    let whole = rw (← c.self.view_is) at c.requires.whole in
    c.counts_of.ensures.counts t (whole (OfType t) (rw (← c.self.view_is) at lt)) (s.histories t)
    ((rw (← c.self.view_is) at stand) (OfType t))
