use Rattle.std.proofs.{Common.arith, Common.refl, lemmas.Result.err_from_is_err_and}
use Rattle.msg_world.proofs.Loans.{writes_are}
use Rattle.msg_system.proofs.Lendings.{all_given, written_messages_stand}
use Rattle.msg_system.proofs.steps.drain.Goals as goal

pub returns-clause-ran : goal.returns-clause-ran
returns-clause-ran g c s stand =
    let h = s.histories c.args.t in
    let here = written_messages_stand c.args.lent.now s c.args.t _ c.requires.lent c.in-Some.ensures.writable stand in
    record {
      same_places = refl;
      stands = (writes_are c.args.lent.now c.args.t c.clear.new.self c.requires.lent).1 s _ (c.clear.ensures.meaning h here) stand;
      same_reply = grind (arith, c.in_ok-all-in-Some.ensures.took h here, all_given _ h here);
    }

pub returns-in_err-all-in-Some-clause-refused : goal.returns-in_err-all-in-Some-clause-refused
returns-in_err-all-in-Some-clause-refused g c =
    rw (err_from_is_err_and c.from_residual.result c.from_residual.ensures.1).1 (λ s stand.
    let h = s.histories c.args.t in
    let here = written_messages_stand c.args.lent.now s c.args.t _ c.requires.lent c.in-Some.ensures.writable stand in
    grind (arith, c.in_err-all-in-Some.ensures.refused h here, all_given _ h here))

pub returns-clause-same : goal.returns-clause-same
returns-clause-same g c = (writes_are {values = g.V.Value.values} c.args.lent.now c.args.t c.clear.new.self c.requires.lent).0
