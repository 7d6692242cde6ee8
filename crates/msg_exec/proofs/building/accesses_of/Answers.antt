use Rattle.std.proofs.Common.{◌≡◌, ◌∙◌, Some, refl, slice_get}
use Rattle.std.proofs.lemmas.{List.length_push, Option.get_or_from_slice_get}
use Rattle.msg_exec.specs.inner.EngineParts.{IsAccessAt}
use Rattle.msg_exec.proofs.ItemsOfLists.{each_pushed}
use Rattle.msg_exec.proofs.building.accesses_of.Goals as goal

pub loop-i-preserved : goal.loop-i-preserved
loop-i-preserved g c =
    let i = c.loop-i.i in
    let inv = c.loop-i.invariant in
    let xs = c.loop-i.accesses.items in
    let m = g.S.SystemOf.meaning in
    let system : (x : g.row.S.Denot) → slice_get c.args.systems.now i ≡ Some x → c.index-systems-i.result ≡ x =
    λ x there. c.index-systems-i.is ∙ get_or_from_slice_get c.args.systems.now i x _ there in
    record {
      as_many = rw (c.in_ok-push.ensures.items, length_push, inv.as_many) refl;
      accesses = rw c.in_ok-push.ensures.items
          (each_pushed (IsAccessAt m c.args.systems.now c.args.places.now) xs c.job_access-access.result inv.accesses
          (rw inv.as_many (λ x place sx sp.
          let needs = rw c.as_slice.ensures.items at (c.job_access-access.ensures.needs _ c.access-own.ensures.needs) in
          rw (← system x sx, ← get_or_from_slice_get c.args.places.now i place c.index-places-i.result sp) needs)));
    }
