use Rattle.std.proofs.{Common.ap, Common.arith, Common.rules, lemmas.List.length-map}
use Rattle.msg_world.specs.{Prelude.by, declared.record.Record.Record}
use Rattle.msg_system.specs.Prelude.{Took}
use Rattle.msg_system.proofs.steps.forward.Goals as goal

pub returns-clause-ran : goal.returns-clause-ran
returns-clause-ran g c places at s stand =
    let here = c.messages_of.ensures.stands s stand in
    let took = c.in_ok-took.ensures.took _ here in
    let again = λ (m : Record g.row.V.Denot). by c.args.writer m.value in
    let same = c.as_slice.ensures.items in
    let numbers = rw (← length-map c.as_slice.result.now again, same) at (c.in_ok-wrote.ensures.numbers s stand) in
    record {
      same_places = grind (arith, at, c.in_ok-took.ensures.place _ here);
      stands = rw (at, ← ap (λ (k : Took g.row.V.Denot). k.items) took, ← same)
          (c.in_ok-wrote.ensures.written again (λ x m made. search rules) s stand);
      same_reply = grind (arith, at, took, numbers);
    }
