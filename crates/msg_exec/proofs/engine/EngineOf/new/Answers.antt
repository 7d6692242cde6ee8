use Rattle.std.proofs.Common.{length, map, refl, arith, inr}
use Rattle.std.proofs.lemmas.Result.{err_from_is_err_and}
use Rattle.msg_exec.specs.Prelude.{Core, FixedParts}
use Rattle.msg_frames.specs.Prelude.{State, before_joining, with_joining}
use Rattle.msg_exec.proofs.{FirstEngineStands.are_new, FirstEngineStands.parts_stand, FirstEngineStands.fixed_first, CoreRunsFrame.joined_by_frame, CoreRunsFrame.fixed_along, SinceThen.since_none}
use Rattle.msg_frames.proofs.{FirstStatesAreSound.first_is_sound, SystemsStay.joining_on_keeps}
use Rattle.msg_order.proofs.SettledOrders.{none_more}
use Rattle.msg_exec.proofs.engine.EngineOf.new.Goals as goal

pub returns-in_err-check_build-clause-refusal : goal.returns-in_err-check_build-clause-refusal
returns-in_err-check_build-clause-refusal g c =
    let refused = rw (c.deref.ensures.value, c.deref-2.ensures.value) at c.in_err-check_build.ensures.refusal in
    let p = err_from_is_err_and c.from_residual.result c.from_residual.ensures.1 in
    rw (p.1, p.2) refused

pub prepare-requires-clause-in_range : goal.prepare-requires-clause-in_range
prepare-requires-clause-in_range g c =
    rw (c.deref-3.ensures.value, c.deref-5.ensures.value) c.requires.in_range

pub prepare-requires-clause-no_cycle : goal.prepare-requires-clause-no_cycle
prepare-requires-clause-no_cycle g c =
    rw c.deref-5.ensures.value (rw c.deref-2.ensures.value at c.in_ok-check_build.ensures.no_cycle)

pub returns-clause-no_clash : goal.returns-clause-no_clash
returns-clause-no_clash g c = rw c.deref.ensures.value at c.in_ok-check_build.ensures.no_clash

pub returns-clause-no_cycle : goal.returns-clause-no_cycle
returns-clause-no_cycle g c = rw c.deref-2.ensures.value at c.in_ok-check_build.ensures.no_cycle

pub returns-in_err-accesses-clause-refusal : goal.returns-in_err-accesses-clause-refusal
returns-in_err-accesses-clause-refusal g c =
    let p = err_from_is_err_and c.from_residual-in_err-accesses.result c.from_residual-in_err-accesses.ensures.1 in
    rw (p.1, p.2, ← c.deref.ensures.value, ← c.deref-2.ensures.value)
    (c.in_ok-check_build.ensures.no_clash, c.in_ok-check_build.ensures.no_cycle)

pub returns-in_err-guarded-clause-refusal : goal.returns-in_err-guarded-clause-refusal
returns-in_err-guarded-clause-refusal g c =
    let p = err_from_is_err_and c.from_residual-in_err-guarded.result c.from_residual-in_err-guarded.ensures.1 in
    rw (p.1, p.2, ← c.deref.ensures.value, ← c.deref-2.ensures.value)
    (c.in_ok-check_build.ensures.no_clash, c.in_ok-check_build.ensures.no_cycle)

pub join_those-requires : goal.join_those-requires
join_those-requires g c =
    let prepared = rw (c.types.ensures.types, c.deref-3.ensures.value, c.deref-4.ensures.value, c.deref-5.ensures.value)
    at c.in_ok-accesses.ensures.prepared in
    let w = c.stands_for_some.ensures.state in
    let parts = parts_stand g.S.SystemOf.meaning _ c.args.systems.items c.args.places.items c.requires.whole
    c.requires.one_place_each c.requires.each _ _ prepared _ c.in_ok-guarded.ensures.as_many
    (rw c.deref-6.ensures.value at c.in_ok-guarded.ensures.guarded) w.0 w.1 in
    record { stands = (_, (parts.0, rw c.deref-7.ensures.value parts.1, parts.2)) }

pub returns-clause-since : goal.returns-clause-since
returns-clause-since g c w stands =
    let m = g.S.SystemOf.meaning in
    let systems = c.args.systems.items in
    let places = c.args.places.items in
    let rules = c.args.rules.items in
    let made = c.in_ok-accesses.field-0 in
    let prepared = rw (c.types.ensures.types, c.deref-3.ensures.value, c.deref-4.ensures.value, c.deref-5.ensures.value)
    at c.in_ok-accesses.ensures.prepared in
    let parts = parts_stand m _ systems places c.requires.whole c.requires.one_place_each c.requires.each rules made
    prepared _ c.in_ok-guarded.ensures.as_many (rw c.deref-6.ensures.value at c.in_ok-guarded.ensures.guarded) w stands in
    let first : State g.V.Value.values = before_joining (map m systems) places rules (length c.args.world.types) (length c.args.world.resources) w in
    let s : State g.V.Value.values = with_joining 1 first in
    let core : Core g.row.S.Denot g.row.V.Denot =
    record { lender = c.join_those.new.lender; joins = made.joins; rules = c.args.rules; plan = made.plan } in
    let fixed : FixedParts core s = fixed_along refl refl (joining_on_keeps 1 first)
    (fixed_first m _ systems places c.requires.whole c.requires.one_place_each c.requires.each core rules w
    c.requires.few c.requires.in_range refl parts.1) in
    let none = none_more (length systems) rules c.requires.in_range
    (rw c.deref-2.ensures.value at c.in_ok-check_build.ensures.no_cycle) in
    since_none m _ s (record {
      core = record {
        lender = c.join_those.ensures.joined first parts.0 (rw c.deref-7.ensures.value parts.1) parts.2;
        fixed = fixed;
        plan = rw (c.join_those.ensures.accesses, ← joined_by_frame made.joins.items s 1 fixed.joins (omega arith))
            prepared.plan;
        sound = first_is_sound (map m systems) places rules (length c.args.world.types) (length c.args.world.resources) w
            (are_new m _ systems places c.requires.whole c.requires.one_place_each c.requires.each rules w stands
            c.stands_for_some.ensures.few none);
      };
      frames = omega arith;
    })

pub returns-clause-engine : goal.returns-clause-engine
returns-clause-engine g c = let w = c.stands_for_some.ensures.state in inr (_, (returns-clause-since g c w.0 w.1).stands)
