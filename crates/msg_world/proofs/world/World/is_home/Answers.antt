use Rattle.msg_world.proofs.Worlds.{home_by_tests}
use Rattle.msg_world.proofs.world.World.is_home.Goals as goal

pub returns : goal.returns
returns g c = record {
  home = rw (← c.self.view_is) (home_by_tests c.args.access.now _ _ _ _ c.have_each.ensures.each c.have_each-2.ensures.each
      c.is_some.ensures);
}
