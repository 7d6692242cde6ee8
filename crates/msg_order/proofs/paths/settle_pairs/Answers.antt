use Rattle.std.proofs.Common.{Bool, arith, length, rules, ℕ}
use Rattle.std.proofs.lemmas.Bool.{and_parts}
use Rattle.msg_order.specs.inner.Paths.{conflict_among}
use Rattle.msg_order.proofs.{SetPaths.joined_in, SetPaths.row_settles, SettledOrders.some_test}
use Rattle.msg_order.proofs.paths.settle_pairs.Goals as goal

pub add_edges-requires-clause-within : goal.add_edges-requires-clause-within
add_edges-requires-clause-within c k in_ =
    let test = some_test c.args.accesses.now c.args.joined.now in
    let joined = joined_in c.args.joined.now k in
    grind (arith, and_parts, c.later_conflicts-later.ensures test.0 test.1 k, c.requires.one_each, in_, joined)

pub loop-i-preserved : goal.loop-i-preserved
loop-i-preserved c =
    let joined = c.args.joined.now in
    let i : ℕ = c.loop-i.i in record {
      starts = c.add_edges.ensures.starts;
      passed = λ j. search rules;
      settled = λ g h conflict tells.
          let among : ℕ → ℕ → Bool = conflict_among joined conflict in
          row_settles among g (length joined) i c.loop-i.before c.add_edges.new.before c.later_conflicts-later.result
          (omega arith) (omega arith) (λ j t. joined_in joined j (grind (arith, and_parts, t)))
          (c.later_conflicts-later.ensures conflict tells) c.add_edges.ensures.edges (c.loop-i.invariant.settled g h conflict tells);
    }
