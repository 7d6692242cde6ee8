use Rattle.msg_world.proofs.Conflicts.{collides}
use Rattle.msg_world.proofs.masks.collide.Goals as goal

pub returns : goal.returns
returns c = collides _ _ _ _ _ _ c.share_bit.ensures c.share_bit-2.ensures
