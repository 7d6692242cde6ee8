use Rattle.std.proofs.Common.{Bool, List, ap, arith, length, map, sym, ℕ, ◌++◌, ◌+◌, ◌-◌, ◌∙◌, ◌≡◌}
use Rattle.std.proofs.lemmas.{Bool.Decides.nat_tests, List.append-nil, List.length-map, List.length_push, List.map-append}
use Rattle.msg_order.specs.{Prelude.batches_of, Prelude.has_joined, inner.Paths.set_at, inner.SystemSet.has, inner.SystemSet.meets}
use Rattle.msg_order.proofs.{BatchLevels.few_left, BatchLevels.left_falls, BatchLevels.left_of, BatchLevels.level_is, BatchLevels.no_batch, BatchLevels.ready, Functions.out_next}
use Rattle.msg_order.proofs.levels.batches_of.Goals as goal

pub levels-init : goal.levels-init
levels-init _g c = record {
  within = c.requires.within;
  few = rw (c.new-batches.ensures.items) (omega (arith, few_left (has c.args.joined.now) (length c.args.before.now)));
  out = λ g paths steps. rw (c.new-batches.ensures.items) (ap (λ (k : ℕ). batches_of k g (left_of (has c.args.joined.now) (length c.args.before.now))) (omega arith));
}

pub levels-smaller : goal.levels-smaller
levels-smaller _g c =
    left_falls (has c.levels.left) (λ i. meets (set_at c.args.before.now i) c.levels.left) (has c.in_ok-batch.next) _ _
    c.in_ok-batch.ensures.ready c.in_ok-batch.ensures.next (grind (arith, nat_tests))

pub levels-preserved : goal.levels-preserved
levels-preserved _g c = record {
  within = λ k e. grind (arith, c.levels.invariant.within k, c.in_ok-batch.ensures.next k);
  few = rw (c.in_ok-push.ensures.items) (omega (arith, c.levels.invariant.few, length_push c.levels.batches.items c.in_ok-batch.batch, levels-smaller _g c));
  out = λ g paths.
      let level = level_is g c.args.before.now c.levels.left c.in_ok-batch.next _ paths c.requires.few c.levels.invariant.within
      c.in_ok-batch.ensures.ready c.in_ok-batch.ensures.next in
      rw (c.in_ok-push.ensures.items, map-append)
      (out_next g (has c.args.joined.now) (has c.levels.left) (has c.in_ok-batch.next) _ _ _ level (grind (arith, nat_tests))
      (c.levels.invariant.out g paths));
}

pub returns-then-is_empty-clause-batches : goal.returns-then-is_empty-clause-batches
returns-then-is_empty-clause-batches _g c = λ g systems paths set len free.
    let n : ℕ = length c.args.before.now in
    let left : List ℕ = left_of (has c.levels.left) n in
    let made : List (List ℕ) = map (λ b. b.items) c.levels.batches.items in
    let level = level_is g c.args.before.now c.levels.left c.in_ok-batch.next _ paths c.requires.few c.levels.invariant.within
    c.in_ok-batch.ensures.ready c.in_ok-batch.ensures.next in
    let none : length (ready g left) ≡ 0 = sym (ap length level.0) ∙ grind (arith, nat_tests) in
    let more : ℕ = n - length made in
    let steps : length made + more ≡ length systems = omega (arith, len, c.levels.invariant.few, length-map c.levels.batches.items (λ b. b.items)) in
    let all = rw steps at (c.levels.invariant.out g paths more) in
    let firsts : left_of (has c.args.joined.now) n ≡ left_of (has_joined systems) (length systems) =
    rw len (ap (λ (l : ℕ → Bool). left_of l n) (λ k i. set i k)) in
    sym (rw firsts at all ∙ ap (λ (rest : List (List ℕ)). made ++ rest) (no_batch g free more left none) ∙ append-nil _)
