use Rattle.std.proofs.Common.{arith, length, rules, sym, ◌+◌, ◌∙◌}
use Rattle.std.proofs.lemmas.Bool.{cases_Bool, cases_eq, cases_lt}
use Rattle.msg_order.specs.{inner.Paths.is_ready, inner.SystemSet.has}
use Rattle.msg_order.proofs.Elements.{filter_skips, range_filters}
use Rattle.msg_order.proofs.levels.take_level.Goals.{then-is_blocked, else-is_blocked+in_ok-push}
use Rattle.msg_order.proofs.levels.take_level.Goals as goal

pub left-init : goal.left-init
left-init g c =
    let first = c.next-i.ensures in record {
      at_most = first.at_most;
      is_left = first.is_in;
      batch = c.new-batch.ensures.items ∙ filter_skips (is_ready c.args.before.now c.args.left.now) 0 c.next-i.result
          (omega arith) (λ k le lt. grind (arith, first.none_before k));
      next = λ k lt. grind (arith, first.none_before k, c.empty-next.ensures k);
      above = λ k le. c.empty-next.ensures k;
    }

pub left-preserved : goal.left-preserved
left-preserved g c =
    let i = c.left.i in
    let inv = c.left.invariant in
    let next = c.next-i-in-left.ensures in
    let left = inv.is_left (omega (arith, c.left-test.true)) in
    let skips = filter_skips (is_ready c.args.before.now c.args.left.now) (i + 1) c.next-i-in-left.result
    next.from_there (λ k le lt. grind (arith, next.none_before k)) in
    elim c.if-is_blocked.branch [
      | then-is_blocked w ↦ rw (w.batch-is, w.next-is) (record {
        at_most = next.at_most;
        is_left = next.is_in;
        batch = search (rules, range_filters) ∙ skips;
        next = λ k lt. grind (arith, cases_eq k i, cases_lt k i, inv.next k, inv.above k, next.none_before k, w.insert.ensures k, left);
        above = λ k le. grind (arith, inv.above k, w.insert.ensures k, next.from_there);
      })
      | else-is_blocked+in_ok-push w ↦ rw (w.batch-is, w.next-is) (record {
        at_most = next.at_most;
        is_left = next.is_in;
        batch = search (rules, range_filters) ∙ skips;
        next = λ k lt. grind (arith, cases_eq k i, cases_lt k i, inv.next k, inv.above k, next.none_before k, left);
        above = λ k le. grind (arith, inv.above k, next.from_there);
      })
    ]

pub returns-clause-ready : goal.returns-clause-ready
returns-clause-ready g c =
    c.left.invariant.batch ∙ sym (filter_skips (is_ready c.args.before.now c.args.left.now) (length c.args.before.now) c.left.i
    (omega (arith, c.left-test.false)) (λ k le lt. grind (arith, cases_Bool (has c.args.left.now k), c.requires.within k)))
