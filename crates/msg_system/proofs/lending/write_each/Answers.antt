use Rattle.std.proofs.{Common.arith, lemmas.Bool.cases_lt, lemmas.Bool.Decides.nat_tests, lemmas.List.length-map}
use Rattle.msg_system.proofs.Lendings.{made_by, written_messages_stand}
use Rattle.msg_world.proofs.Loans.{writes_are}
use Rattle.msg_system.proofs.lending.write_each.Goals as goal

pub returns-in-Ok-clause-written : goal.returns-in-Ok-clause-written
returns-in-Ok-clause-written g c f is s stand =
    let here = written_messages_stand c.args.lent.now s c.args.t _ c.requires.lent c.in-Some.ensures.writable stand in
    let made = c.in-Ok.ensures.meaning in
    let same = made_by _ f is c.args.items.now made.0 made.1 in
    (writes_are c.args.lent.now c.args.t c.write_each.new.self c.requires.lent).1 s _
    (rw same at (made.2 (s.histories c.args.t) here)) stand

pub returns-in-Ok-clause-numbers : goal.returns-in-Ok-clause-numbers
returns-in-Ok-clause-numbers g c s stand =
    let here = written_messages_stand c.args.lent.now s c.args.t _ c.requires.lent c.in-Some.ensures.writable stand in
    let first = c.in-Ok.ensures.first (s.histories c.args.t) here in
    let room = c.in-Ok.ensures.room (s.histories c.args.t) here in
    grind (arith, nat_tests, first, room, c.in-Ok.ensures.number)

pub returns-in-Err-NumbersSpent-clause-numbers : goal.returns-in-Err-NumbersSpent-clause-numbers
returns-in-Err-NumbersSpent-clause-numbers g c s stand =
    let here = written_messages_stand c.args.lent.now s c.args.t _ c.requires.lent c.in-Some.ensures.writable stand in
    let spent = c.in-Err-NumbersSpent.ensures.spent (s.histories c.args.t) here in
    grind (arith, nat_tests, spent)

pub returns-in-Err-NumbersSpent-clause-written : goal.returns-in-Err-NumbersSpent-clause-written
returns-in-Err-NumbersSpent-clause-written g c f is s stand =
    let here = written_messages_stand c.args.lent.now s c.args.t _ c.requires.lent c.in-Some.ensures.writable stand in
    let spent = c.in-Err-NumbersSpent.ensures.spent (s.histories c.args.t) here in
    let are = (writes_are c.args.lent.now c.args.t c.write_each.new.self c.requires.lent).1 s (s.histories c.args.t) in
    grind (arith, nat_tests, length-map, spent, are (rw c.in-Err-NumbersSpent.ensures.err here) stand)

pub returns-in-Err-NoMemory-clause-refused : goal.returns-in-Err-NoMemory-clause-refused
returns-in-Err-NoMemory-clause-refused g c s stand =
    let here = written_messages_stand c.args.lent.now s c.args.t _ c.requires.lent c.in-Some.ensures.writable stand in
    let spent = c.in-Err-NoMemory.ensures.spent (s.histories c.args.t) here in
    grind (arith, nat_tests, cases_lt, spent)

pub returns-in-Ok-clause-same : goal.returns-in-Ok-clause-same
returns-in-Ok-clause-same g c =
    (writes_are {values = g.V.Value.values} c.args.lent.now c.args.t c.write_each.new.self c.requires.lent).0
