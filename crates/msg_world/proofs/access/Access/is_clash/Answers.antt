use Rattle.msg_world.proofs.Conflicts.{clashes}
use Rattle.msg_world.proofs.access.Access.is_clash.Goals as goal

pub returns : goal.returns
returns c = record { clash = clashes c.args.self.now _ _ c.share_bit.ensures c.share_bit-2.ensures }
