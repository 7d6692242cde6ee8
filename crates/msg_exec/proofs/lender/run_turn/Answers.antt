use Rattle.std.proofs.Common.{◌<◌, length, None, option_map, refl, sym, ap, ◌∙◌, arith}
use Rattle.std.proofs.lemmas.List.{get_or-set_other, get_or-set_same, length-set}
use Rattle.msg_exec.proofs.{BatchOfOne.may_come_home, BatchOfOne.may_take_turn, BatchOfOne.turn_taken}
use Rattle.msg_exec.proofs.lender.run_turn.Goals as goal

pub take_turn-requires : goal.take_turn-requires
take_turn-requires g c =
    let (s, (stands, lt)) = c.requires.stands in
    let may = may_take_turn g.S.SystemOf.meaning c.args.number stands lt c.index-access.ensures c.index_mut.ensures.value
    c.in-Some.is c.in_ok-taken.ensures.lent in
    record { empty = c.replies-replies.ensures.empty; loan = may.loan; access = rw c.deref_mut-guarded.ensures.value may.access }

pub enter_turn-requires : goal.enter_turn-requires
enter_turn-requires g c =
    let (s, (stands, lt)) = c.requires.stands in
    record {
      few = (may_come_home g.S.SystemOf.meaning c.args.number stands lt c.index-access.ensures c.index_mut.ensures.value
          c.in-Some.is c.in_ok-taken.ensures.lent
          (rw (c.deref_mut-guarded.ensures.value, ← c.outcome_if-outcome.ensures.outcome) at c.in_ok-taken-2.ensures.took)).few;
      there = rw stands.totals lt;
    }

pub returns-clause-turned : goal.returns-clause-turned
returns-clause-turned g c s stands =
    let lt = rw (sym c.requires.stands.1.0.accesses ∙ stands.accesses) at c.requires.stands.1.1 in
    let i = c.args.number in
    let systems = c.args.lender.now.systems.items in
    let there : i < length systems = omega (arith, lt, stands.systems) in
    rw c.in_ok-push.ensures.items (turn_taken g.S.SystemOf.meaning i stands lt c.index-access.ensures c.index_mut.ensures.value
    c.in-Some.is c.in_ok-taken.ensures.lent
    (rw (c.deref_mut-guarded.ensures.value, ← c.outcome_if-outcome.ensures.outcome) at c.in_ok-taken-2.ensures.took)
    _ (record {
      as_many = length-set systems i _;
      system = rw (get_or-set_same systems i _ None there) refl;
      others = λ k other. ap (option_map _) (get_or-set_other systems i k _ None other);
      accesses = refl;
      taken_back = c.take_back.ensures.home;
      totals = c.enter_turn.ensures.entered;
    }))
