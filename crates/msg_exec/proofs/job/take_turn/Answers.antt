use Rattle.std.proofs.Common.{rules, ◌≡◌, refl, sym, ap, ◌∙◌}
use Rattle.msg_world.specs.declared.access.Access.{Access}
use Rattle.msg_world.specs.Prelude.{SameShape, writes, slot}
use Rattle.msg_system.specs.Prelude.{all_hold, turn}
use Rattle.msg_system.proofs.LoansCover.{jobs_cover, written_is_all}
use Rattle.msg_exec.proofs.JobsAreDone.{asked_guards, ran_job, skipped_job, none_there}
use Rattle.msg_exec.proofs.job.take_turn.Goals as goal

pub check_all-requires : goal.check_all-requires
check_all-requires g c =
    let l = c.open-lent in
    let own = rw (← l.ensures.access) at c.requires.access in
    record { covers = rw c.deref_mut.ensures.value (jobs_cover _ _ l.result l.ensures.complete own).1 }

pub run-requires : goal.run-requires
run-requires g c =
    let l = c.open-lent in
    let own = rw (← l.ensures.access) at c.requires.access in
    record { covers = (jobs_cover _ _ l.result l.ensures.complete own).0 }

pub returns-then-not-check_all : goal.returns-then-not-check_all
returns-then-not-check_all g c =
    let old = c.args.guarded.now in
    let kept : c.args.taken ≡ c.into_taken.result = sym (c.into_taken.ensures.taken ∙ c.open-lent.ensures.taken) in
    let there = c.deref_mut.ensures.value in
    record {
      took = record {
        shape = rw (← kept) (search rules);
        after = λ w world lent.
            let stands = c.open-lent.ensures.meaning w world lent in
            skipped_job g.S.SystemOf.meaning old _ _ w
            (sym c.if-not-check_all.true ∙ c.check_all.ensures.answer w stands ∙ ap (λ gs. all_hold gs w) there)
            refl
            (asked_guards old.guards w there c.check_all.ensures.same (c.check_all.ensures.moved w stands))
            (rw kept at lent);
      };
    }

pub returns : goal.returns
returns g c =
    let old = c.args.guarded.now in
    let l = c.open-lent.result in
    let taken = c.in_ok-taken.taken in
    let ran = c.in_ok-taken.ensures.ran in
    let shape : SameShape c.args.taken taken = rw c.open-lent.ensures.taken at c.in_ok-taken.ensures.shape in
    let there = c.deref_mut.ensures.value in
    record {
      took = record {
        shape = shape;
        after = λ w world lent.
            let stands = c.open-lent.ensures.meaning w world lent in
            ran_job g.S.SystemOf.meaning old _ l taken w _ _ _ c.requires.empty refl
            (sym c.if-not-check_all.false ∙ c.check_all.ensures.answer w stands ∙ ap (λ gs. all_hold gs w) there)
            (asked_guards old.guards w there c.check_all.ensures.same (c.check_all.ensures.moved w stands))
            ran stands
            (written_is_all l taken (turn (g.S.SystemOf.meaning old.system) w).world
            (λ p isnt. none_there (slot p taken) (shape.there p ∙ c.requires.loan.written p
            ∙ ap (λ (a : Access). writes a p) (sym c.open-lent.ensures.access) ∙ isnt))
            (ran.state w stands));
      };
    }
