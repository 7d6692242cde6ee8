use Rattle.std.proofs.Common.{◌≡◌, length, rules}
use Rattle.msg_game.proofs.game.Game.build.Goals as goal

pub returns-clause-since : goal.returns-clause-since
returns-clause-since g c =
    let many : c.len-types.result ≡ length c.self.inside.names.types.items = search rules in
    rw (← c.self.view_is)
    (rw (c.in_ok-world.ensures.types, c.in_ok-world.ensures.resources, many, c.as_slice.ensures.value) at
    (c.in_ok-build.ensures.since _ c.in_ok-world.ensures.meaning))
