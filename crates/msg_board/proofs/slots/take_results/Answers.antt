use Rattle.std.proofs.Common.{rules, ◌≡◌, ap, sym, ◌∙◌, ◌∷◌, [], arith, length, length-append}
use mathlib.Core.Option.{some, some-injective}
use lib.ListN.{get_elem?}
use Rattle.std.specs.Slots.{slots_items}
use Rattle.msg_board.specs.Prelude.{Done}
use Rattle.msg_board.proofs.TableLists.{joined, got, get_there, false_below}
use Rattle.msg_board.proofs.slots.take_results.Goals as goal

pub unreachable-requires : goal.unreachable-requires
unreachable-requires g c = let inv = c.loop-i.invariant in let is = c.slot_count.ensures in
    let test = c.loop-i-test.true in let long = inv.same_len in
    let t = c.requires.done c.loop-i.i (omega arith) in
    let full = ap (λ l. get_elem? l c.loop-i.i) inv.same_items ∙ t.1 in
    c.in_default.not-Done t.0 (some-injective _ _ (sym c.take.ensures.value ∙ full))

pub loop-i-preserved : goal.loop-i-preserved
loop-i-preserved g c = let inv = c.loop-i.invariant in let is = c.slot_count.ensures in
    let test = c.loop-i-test.true in let long = inv.same_len in
    let took = c.take.ensures.others in let pushed = c.push_reserved.ensures.items in let counted = inv.count in
    record {
      within = omega arith;
      same_items = took.0 ∙ inv.same_items;
      same_len = took.2 ∙ inv.same_len;
      full = search rules;
      taken = false_below _ _ c.loop-i.i took.1 inv.taken;
      count = omega (arith, ap length pushed, length-append c.loop-i.results.items (c.in-Done.done ∷ []));
      room = omega (arith, c.push_reserved.ensures.capacity, inv.room);
      items = λ k d at. joined (λ n b. get_elem? (slots_items c.args.closed.slots) n ≡ some (Done b)) _ c.in-Done.done
          (rw (inv.count, ← inv.same_items) (c.take.ensures.value ∙ ap some c.in-Done.is))
          (λ n b is. inv.items n b (got _ n b is)) k d (get_there _ k d (rw pushed at at));
    }
