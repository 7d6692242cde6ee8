use Rattle.std.proofs.Common.{◌≡◌, ◌<◌, ◌∙◌, length, refl, sym, arith, inl, inr}
use Rattle.std.proofs.lemmas.{Bool.cases_lt, Bool.false≢true, Option.get_or_from_slice_get, Option.slice_get_read}
use Rattle.msg_exec.proofs.builder.check_systems.Goals as goal

pub loop-i-preserved : goal.loop-i-preserved
loop-i-preserved g c j x place lt sx sp =
    let i = c.loop-i.i in
    elim (cases_lt j i) [
      | inl before ↦ c.loop-i.invariant j x place before sx sp
      | inr past ↦
          let at : j ≡ i = omega (arith, lt, past) in
          rw (
            ← get_or_from_slice_get c.args.systems.now i x c.index-systems-i.result (rw at at sx),
            ← get_or_from_slice_get c.args.places.now i place c.index-places-i.result (rw at at sp),
            ← c.index-systems-i.is,
            ← c.index-places-i.is,
          ) (rw (c.types-types.ensures.types, c.resources-resources.ensures.resources, c.as_slice-conditions.ensures.items, ← c.index-places-i.is)
          at ((c.fits_world.ensures.fit _ c.access.ensures.needs).0 c.if-not-fits_world.false))
    ]

pub returns-then-not-fits_world-clause-misfit : goal.returns-then-not-fits_world-clause-misfit
returns-then-not-fits_world-clause-misfit g c = (
  _,
  refl,
  record {
    system = c.index-systems-i.result;
    place = c.index-places-i.result;
    is = slice_get_read c.args.systems.now _ c.loop-i.i _ refl c.loop-i-test.true c.index-systems-i.is;
    placed =
        let within : c.loop-i.i < length c.args.places.now = omega (arith, c.loop-i-test.true, c.requires.one_place_each) in
        slice_get_read c.args.places.now _ c.loop-i.i _ refl within c.index-places-i.is;
    misfit = λ fit. false≢true (sym c.if-not-fits_world.true ∙ (c.fits_world.ensures.fit _ c.access.ensures.needs).1
        (rw (c.types-types.ensures.types, c.resources-resources.ensures.resources, c.as_slice-conditions.ensures.items, ← c.index-places-i.is) fit));
    lowest = c.loop-i.invariant;
  },
)
