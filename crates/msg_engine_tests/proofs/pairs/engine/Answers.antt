use Rattle.std.proofs.Common.{[], ◌∷◌}
use Rattle.msg_world.specs.Prelude.{new_world, i64_values}
use Rattle.msg_engine_tests.proofs.pairs.engine.Goals as goal

pub returns-clause-since : goal.returns-clause-since
returns-clause-since c =
    let made = c.in_ok-pair.ensures in
    rw (made.systems, made.places, made.rules, c.in_ok-world.ensures.types, c.in_ok-world.ensures.resources)
    at (c.in_ok-build.ensures.since (new_world i64_values (100 ∷ []) []) c.in_ok-world.ensures.meaning)
