use Rattle.msg_reading.specs.Prelude.{first_world}
use Rattle.msg_scenario.proofs.EngineIsMade.{all_made, may_add, no_clash}
use Rattle.msg_scenario.proofs.building.engine_of.Goals as goal

pub new-requires-clause-each : goal.new-requires-clause-each
new-requires-clause-each g c =
    let s = c.args.scenario.now in
    let added = may_add g.S.SystemOf.meaning s c.args.systems.items c.requires.as_many c.requires.each in
    rw c.in_ok-places.ensures.places (added c.in_ok-world.world c.requires.runnable c.in_ok-world.ensures.types
    c.in_ok-world.ensures.resources)

pub returns-in-Ok : goal.returns-in-Ok
returns-in-Ok g c =
    let s = c.args.scenario.now in
    let made = all_made g.S.SystemOf.meaning s c.args.systems.items c.requires.as_many c.requires.each in
    record {
      meaning = rw (
        made,
        c.in_ok-places.ensures.places,
        c.into_vec-rules.ensures.items,
        c.in_ok-copy.ensures.equal,
        c.in_ok-world.ensures.types,
        c.in_ok-world.ensures.resources,
      ) at (c.in-Ok.ensures.since (first_world s) c.in_ok-world.ensures.meaning).stands;
    }

pub unreachable-requires : goal.unreachable-requires
unreachable-requires g c =
    no_clash g.S.SystemOf.meaning c.args.scenario.now c.args.systems.items c.requires.as_many c.requires.each
    c.in-Err-Clash.field-0-0 c.requires.runnable (rw c.in-Err-Clash.field-0-is at c.in-Err-Clash.ensures.refusal)

pub unreachable-requires-in-Err-Cycle : goal.unreachable-requires-in-Err-Cycle
unreachable-requires-in-Err-Cycle g c =
    let lowest = (rw c.in-Err-Cycle.field-0-is at c.in-Err-Cycle.ensures.refusal).1 in
    (rw (← c.in_ok-copy.ensures.equal, ← c.into_vec-rules.ensures.items) at c.requires.runnable.acyclic)
    c.in-Err-Cycle.field-0-0 lowest.on_cycle
