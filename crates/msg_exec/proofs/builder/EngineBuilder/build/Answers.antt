use Rattle.std.proofs.Common.{arith}
use Rattle.std.proofs.lemmas.{Option.get_or_from_slice_get, Option.slice_get_within, Result.err_from_is_err_and}
use Rattle.msg_exec.proofs.BuilderBuilds.{before, no_clash_before, refusal_before}
use Rattle.msg_exec.proofs.builder.EngineBuilder.build.Goals as goal

pub new-requires-clause-in_range : goal.new-requires-clause-in_range
new-requires-clause-in_range g c =
    let named = rw (c.deref-4.ensures.value, c.deref-3.ensures.value) at c.in_ok-check_names.ensures.named in
    rw c.number_all-systems.ensures.as_many named

pub new-requires-clause-each : goal.new-requires-clause-each
new-requires-clause-each g c i x there =
    let old = c.self.inside.systems.items in
    let told = c.number_all-systems.ensures in
    let places = c.self.inside.places.items in
    let y = before g.S.SystemOf.meaning old _ told.as_many told.numbered i x there in
    let fit = rw (c.deref.ensures.value, c.deref-2.ensures.value) at c.in_ok-check_systems.ensures.fit in
    record {
      new = grind (arith, y.1.1);
      fits = λ place sp p needed.
          fit i y.0 place (slice_get_within old i y.0 y.1.0) y.1.0 sp p (rw y.1.1 at needed);
      joins = λ place sp.
          rw (get_or_from_slice_get places i place place sp)
          at (c.self.invariant.2 i place (slice_get_within places i place sp));
    }

pub returns-clause-since : goal.returns-clause-since
returns-clause-since g c w stands =
    rw (← c.self.view_is) (rw c.number_all-systems.ensures.numbered at (c.in_ok-new.ensures.since w stands))

pub returns-clause-no_clash : goal.returns-clause-no_clash
returns-clause-no_clash g c =
    let told = c.number_all-systems.ensures in
    rw (← c.self.view_is) (no_clash_before g.S.SystemOf.meaning c.self.inside.systems.items _ told.as_many told.numbered
    c.in_ok-new.ensures.no_clash)

pub returns-clause-no_cycle : goal.returns-clause-no_cycle
returns-clause-no_cycle g c = rw (← c.self.view_is) c.in_ok-new.ensures.no_cycle

pub returns-in_err-new-clause-refusal : goal.returns-in_err-new-clause-refusal
returns-in_err-new-clause-refusal g c =
    let told = c.number_all-systems.ensures in
    let p = err_from_is_err_and c.from_residual-in_err-new.result c.from_residual-in_err-new.ensures.1 in
    rw (p.1, p.2) (rw (← c.self.view_is) (
      rw (c.deref.ensures.value, c.deref-2.ensures.value) at c.in_ok-check_systems.ensures.fit,
      rw (c.deref-4.ensures.value, c.deref-3.ensures.value) at c.in_ok-check_names.ensures.named,
      refusal_before g.S.SystemOf.meaning c.self.inside.systems.items _ told.as_many told.numbered
          c.self.inside.rules.items _ c.in_err-new.ensures.refusal,
    ))

pub returns-clause-fit : goal.returns-clause-fit
returns-clause-fit g c =
    rw (← c.self.view_is)
    (rw (c.deref.ensures.value, c.deref-2.ensures.value) at c.in_ok-check_systems.ensures.fit)

pub returns-clause-named : goal.returns-clause-named
returns-clause-named g c =
    rw (← c.self.view_is)
    (rw (c.deref-4.ensures.value, c.deref-3.ensures.value) at c.in_ok-check_names.ensures.named)
