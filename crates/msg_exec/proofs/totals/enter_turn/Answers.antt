use Rattle.std.proofs.Common.{arith, refl, not, ap}
use Rattle.msg_exec.proofs.EntriesAreAdded.{entered_there, none_entered}
use Rattle.msg_exec.proofs.totals.enter_turn.Goals as goal

pub returns-then-any_adds : goal.returns-then-any_adds
returns-then-any_adds g c = record {
  entered = (
    _,
    refl,
    entered_there (g.S.SystemOf.meaning c.args.system.now).last c.args.outcome.now c.args.number c.args.all.now.items
        c.index_mut.ensures.value c.deref_mut.ensures.value
        (omega (arith, c.enter.ensures.as_many, c.deref_mut.ensures.len))
        (record { as_many = c.enter.ensures.as_many; entered = c.enter.ensures.entered }),
  );
}

pub returns-else-any_adds : goal.returns-else-any_adds
returns-else-any_adds g c =
    let ops = (g.S.SystemOf.meaning c.args.system.now).last in
    record {
      entered = none_entered ops c.args.outcome.now
          (λ t x. c.any_adds.ensures.none (ap not c.if-any_adds.false) t ops x) c.args.all.now.items c.args.number
          c.requires.there;
    }
