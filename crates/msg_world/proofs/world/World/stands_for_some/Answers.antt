use Rattle.msg_world.proofs.Worlds.{some_state}
use Rattle.msg_world.proofs.world.World.stands_for_some.Goals as goal

pub returns-clause-state : goal.returns-clause-state
returns-clause-state g c =
    some_state c.args.self.now _ c.deref.result.now c.self.view_is c.deref.ensures.value
    c.each_stands.ensures.histories
