use Rattle.std.proofs.Common.{arith, max, refl, suc}
use Rattle.std.proofs.lemmas.Bool.{ne_eqb, cases_Bool, eqb-false, lt-ltb}
use Rattle.msg_frames.proofs.SystemsStay.{joining_keeps}
use Rattle.msg_exec.proofs.{CoreRunsFrame.about_to_join, CoreRunsFrame.nobody_more, CoreRunsFrame.fixed_along, SystemsJoin.members_alike}
use Rattle.msg_exec.proofs.engine_core.join_next.Goals as goal

pub returns-in_default-clause-begun : goal.returns-in_default-clause-begun
returns-in_default-clause-begun g c s stands is =
    let none = rw c.in_default.is at (c.in_ok-next.ensures.plan s stands is) in
    record {
      lender = (let lender = stands.lender in grind (arith, cases_Bool, eqb-false, members_alike, ne_eqb));
      fixed = fixed_along refl refl (joining_keeps s) stands.fixed;
      plan = rw ((joining_keeps s).rules, nobody_more s none) stands.plan;
    }

pub join_those-requires : goal.join_those-requires
join_those-requires g c =
    let s = c.requires.stands.0 in
    let stands = c.requires.stands.1.0 in
    let next = rw c.in-Some.is at (c.in_ok-next.ensures.plan s stands c.requires.stands.1.1) in
    let fresh = about_to_join s stands.sound next.0 in
    record { stands = (s, (stands.lender, rw c.deref.ensures.value stands.fixed.joins, rw next.1 fresh)) }

pub returns-in-Some-clause-begun : goal.returns-in-Some-clause-begun
returns-in-Some-clause-begun g c s stands is =
    let next = rw c.in-Some.is at (c.in_ok-next.ensures.plan s stands is) in
    let lender = c.join_those.ensures.joined s stands.lender (rw c.deref.ensures.value stands.fixed.joins)
    (rw next.1 (about_to_join s stands.sound next.0)) in
    record {
      lender = rw (lt-ltb (max 1 s.frames) (suc s.frames) (omega (arith, next.0)), ← next.1) lender;
      fixed = fixed_along refl refl (joining_keeps s) stands.fixed;
      plan = rw ((joining_keeps s).rules, c.join_those.ensures.accesses) next.2;
    }
