use Rattle.msg_world.proofs.Worlds.{new_stands, new_whole}
use Rattle.msg_world.proofs.world.World.new.Goals as goal

pub returns-clause-meaning : goal.returns-clause-meaning
returns-clause-meaning g c =
    rw c.in_ok-resources.ensures.values (new_stands _ _ _ _ c.in_ok-types.ensures.as_many c.in_ok-types.ensures.empty)

pub returns-clause-whole : goal.returns-clause-whole
returns-clause-whole g c =
    rw c.in_ok-resources.ensures.values (new_whole g.V.Value.values _ _ _ c.in_ok-types.ensures.as_many c.in_ok-types.ensures.empty)
