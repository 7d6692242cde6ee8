use Rattle.std.proofs.Common.{◌≡◌, ◌+◌, ◌<◌, ◌++◌, ◌∷◌, [], ◌∙◌, arith, length, refl, slice_index_or, sym, take, ap}
use Rattle.std.proofs.Math.Seq.{map-set_same}
use Rattle.std.proofs.lemmas.List.{get_or-map, length-take-le, take_all, take_more}
use Rattle.msg_function.specs.Functions.{answered}
use Rattle.msg_function.proofs.Steps.{none_ran, ran_then, still_writable, written_ops-push}
use Rattle.msg_function.proofs.outbox.Outbox.write_lists.Goals as goal

pub loop-k-init : goal.loop-k-init
loop-k-init g c = record { ran = none_ran _ _ _; stays = refl }

pub write_list-requires : goal.write_list-requires
write_list-requires g c =
    let there = c.requires.written c.loop-k.k c.index-ports-k.result c.loop-k-test.true in
    record { written = still_writable _ _ _ c.loop-k.invariant.ran.same (rw (← c.index-ports-k.is) at there) }

pub loop-k-preserved : goal.loop-k-preserved
loop-k-preserved g c =
    let ports = c.args.ports.now in let k = c.loop-k.k in let port = c.index-ports-k.result in
    let lists = c.loop-k.self.lists.items in let list = c.index_mut.result.now in
    let inv = c.loop-k.invariant in
    let one : take (k + 1) ports ≡ take k ports ++ port ∷ [] =
    rw (take_more ports k port (omega arith), ← c.index-ports-k.is) refl in
    let lt : k < length lists = omega (arith, c.loop-k.self.one_each, c.requires.within) in
    let at = c.index_mut.ensures.value in
    let here : list.items ≡ answered c.args.self.now k =
    ap (λ x. x.items) at ∙ sym (get_or-map (λ x. x.items) lists k list [] lt) ∙ ap (λ xs. slice_index_or xs k []) inv.stays in
    record {
      ran = rw (one, written_ops-push, length-take-le k ports (omega arith))
          (ran_then inv.ran (rw here at c.in_ok-write_list.ensures.ran));
      stays = map-set_same (λ x. x.items) lists k c.write_list.new.list list (c.in_ok-write_list.ensures.list ∙ ap (λ x. x.items) at)
          ∙ inv.stays;
    }

pub returns : goal.returns
returns g c = record {
  ran = rw (take_all c.loop-k.k c.args.ports.now (omega arith)) at c.loop-k.invariant.ran;
  stays = ap (λ xs j. slice_index_or xs j []) c.loop-k.invariant.stays;
}
