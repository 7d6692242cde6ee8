use Rattle.msg_order.proofs.SetPaths.{reached_in}
use Rattle.msg_order.proofs.paths.add_edges.Goals as goal

pub put_before-requires-clause-within : goal.put_before-requires-clause-within
put_before-requires-clause-within c =
    reached_in c.args.before.now c.args.to.now c.reached_from-reached.result c.requires.within
    c.reached_from-reached.ensures
