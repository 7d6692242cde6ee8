use Rattle.std.proofs.Common.{refl, ◌≡◌, length, ap, ◌∙◌, arith, suc}
use Rattle.msg_frames.specs.Prelude.{SameSystems}
use Rattle.msg_frames.proofs.SystemsStay.{joining_keeps}
use Rattle.msg_exec.specs.inner.FrameSteps.{begun}
use Rattle.msg_exec.proofs.{CoreRunsFrame.joined_by_frame, CoreRunsFrame.fixed_along, ItemsOfLists.if_refused}
use Rattle.msg_exec.specs.Prelude.{FixedParts}
use Rattle.msg_exec.proofs.engine_core.next_plan.Goals as goal

pub of_frame-requires-clause-no_cycle : goal.of_frame-requires-clause-no_cycle
of_frame-requires-clause-no_cycle g c joined as_many =
    let core = c.requires.stands.1.0 in
    rw (c.deref-3.ensures.value, core.fixed.rules)
    (core.sound.no_cycle joined (as_many ∙ ap length c.deref-2.ensures.value ∙ core.lender.accesses))

pub returns-clause-plan : goal.returns-clause-plan
returns-clause-plan g c s stands is =
    let core = c.args.core.now in
    let next : c.in-Some.next ≡ suc s.frames = omega (arith, is, c.in-Some.ensures) in
    let keeps : SameSystems s (begun s) = grind (arith, joining_keeps) in
    let later : FixedParts core (begun s) = fixed_along refl refl keeps stands.fixed in
    let flags = joined_by_frame core.joins.items (begun s) c.in-Some.next later.joins
    (omega (arith, next)) in
    let plan = rw (c.deref-2.ensures.value, c.deref-3.ensures.value, c.deref-4.ensures.value)
    at c.in_ok-plan.ensures.plan in
    (omega (arith, is, c.if-frames-eq0.false), next, rw (stands.fixed.rules, flags) at plan)

pub returns-in_err-plan-clause-asked : goal.returns-in_err-plan-clause-asked
returns-in_err-plan-clause-asked g c = if_refused c.from_residual.result (λ s stands is.
    let joins = stands.fixed.joins in
    let found = rw c.deref.ensures.value at c.if-not-contains.ensures.cases in (
      omega (arith, is, c.if-frames-eq0.false),
      (
        found.0,
        omega (arith, found.1, joins.as_many),
        grind (arith, found.2 0, found.1, joins.as_many, joins.each found.0, c.in-Some.ensures, is),
      ),
    ))
