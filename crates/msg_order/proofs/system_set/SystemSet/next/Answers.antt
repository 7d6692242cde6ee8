use Rattle.std.proofs.Common.{arith, get_or, rules, ◌/◌, ◌<◌, ◌^◌}
use Rattle.std.proofs.lemmas.Bool.{cases_lt}
use Rattle.msg_order.specs.inner.SystemSet.{has}
use Rattle.msg_order.proofs.SystemSets.{next_in_word, none_in_word}
use Rattle.msg_order.proofs.system_set.SystemSet.next.Goals as goal

pub returns-then-rest-ne0 : goal.returns-then-rest-ne0
unfolding has
returns-then-rest-ne0 c =
    let fits : get_or c.args.self.now.words (c.words.k / 64) 0 < 2 ^ 64 = search rules in
    let next = next_in_word c.args.self.now.words c.words.k fits c.if-rest-ne0.true in record {
      from_there = omega (arith, c.words.invariant.from_there);
      at_most = omega (arith, next.0, c.words-test.true);
      is_in = λ below. next.1;
      none_before = λ q le lt. grind (arith, cases_lt q c.words.k, c.words.invariant.none_before q, next.2 q);
    }

pub words-preserved : goal.words-preserved
unfolding has
words-preserved c = record {
  from_there = omega (arith, c.words.invariant.from_there);
  at_most = omega (arith, c.words-test.true);
  none_before = λ q le lt.
      let gone = none_in_word c.args.self.now.words c.words.k in
      grind (arith, cases_lt q c.words.k, c.words.invariant.none_before q, gone);
}
