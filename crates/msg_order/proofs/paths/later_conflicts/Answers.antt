use Rattle.std.proofs.Common.{IsTrue, arith, rules, ◌&&◌, ◌≡◌}
use Rattle.std.proofs.lemmas.Bool.{Decides.nat_tests, and_parts, cases_Bool}
use Rattle.msg_order.specs.{Prelude.has_joined, inner.SystemSet.has}
use Rattle.msg_order.proofs.PathTest.{same_test}
use Rattle.msg_order.proofs.paths.later_conflicts.Goals as goal

pub returns : goal.returns
returns c conflict tells j =
    let i = c.args.i in
    let here : IsTrue (has_joined c.args.joined.now i) = search rules in
    let told = c.in_conflict_with-later.ensures c.args.accesses.now c.args.joined.now c.requires.users j in
    let same : has c.in_conflict_with-later.result j ≡ (has_joined c.args.joined.now j && conflict i j) = same_test _ _
    (λ t. let is = told.0 t in grind (arith, is.0, (tells i j here is.0).1 is.1))
    (λ t. let both = and_parts (has_joined c.args.joined.now j) (conflict i j) t in told.1 (both.0, (tells i j here both.0).0 both.1)) in
    grind (arith, nat_tests, cases_Bool, same, here, c.requires.passed j, c.remove_all.ensures j, c.remove_all-2.ensures j)
