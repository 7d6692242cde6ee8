use Rattle.std.proofs.{Common.arith, lemmas.Bool.cases_lt, lemmas.Bool.Decides.nat_tests}
use Rattle.std.proofs.Common.{refl}
use Rattle.msg_world.proofs.Loans.{writes_are}
use Rattle.msg_system.proofs.Lendings.{written_messages_stand}
use Rattle.msg_system.proofs.steps.write.Goals as goal

pub returns-in-Ok-clause-ran : goal.returns-in-Ok-clause-ran
returns-in-Ok-clause-ran g c s stand =
    let here = written_messages_stand c.args.lent.now s c.args.t _ c.requires.lent c.in-Some.ensures.writable stand in
    let did = c.in-Ok.ensures in let h = s.histories c.args.t in
    record {
      same_places = refl;
      stands = (writes_are c.args.lent.now c.args.t c.write.new.self c.requires.lent).1 s _ (did.meaning h here) stand;
      same_reply = grind (arith, nat_tests, did.number h here, did.room h here);
    }

pub returns-in-Err-NumbersSpent-clause-ran : goal.returns-in-Err-NumbersSpent-clause-ran
returns-in-Err-NumbersSpent-clause-ran g c s stand =
    let here = written_messages_stand c.args.lent.now s c.args.t _ c.requires.lent c.in-Some.ensures.writable stand in
    let spent = c.in-Err-NumbersSpent.ensures.spent (s.histories c.args.t) here in
    let are = (writes_are c.args.lent.now c.args.t c.write.new.self c.requires.lent).1 s (s.histories c.args.t) in
    grind (arith, nat_tests, spent, are (rw c.in-Err-NumbersSpent.ensures.err here) stand)

pub returns-in-Err-NoMemory-clause-refused : goal.returns-in-Err-NoMemory-clause-refused
returns-in-Err-NoMemory-clause-refused g c s stand =
    let here = written_messages_stand c.args.lent.now s c.args.t _ c.requires.lent c.in-Some.ensures.writable stand in
    let spent = c.in-Err-NoMemory.ensures.spent (s.histories c.args.t) here in
    grind (arith, nat_tests, cases_lt, spent)

pub returns-in-Ok-clause-same : goal.returns-in-Ok-clause-same
returns-in-Ok-clause-same g c =
    (writes_are {values = g.V.Value.values} c.args.lent.now c.args.t c.write.new.self c.requires.lent).0
