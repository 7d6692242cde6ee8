use Rattle.std.proofs.Common.{◌++◌, ◌∷◌, [], arith}
use Rattle.std.proofs.lemmas.{List.get_or_append_left, List.get_or_default, List.get_or_push, List.length_push, Option.get_or_from_slice_get, Option.slice_get_cases, Option.slice_get_within}
use Rattle.msg_exec.specs.inner.EngineParts.{IsGuardedAt}
use Rattle.msg_exec.proofs.ItemsOfLists.{each_pushed}
use Rattle.msg_exec.proofs.building.guarded_systems.Goals as goal

pub loop-system-preserved : goal.loop-system-preserved
loop-system-preserved g c =
    let inv = c.loop-system.invariant in
    let m = g.S.SystemOf.meaning in
    let old = c.loop-system.yielded in
    let xs = c.loop-system.guarded.items in
    record {
      as_many = grind (arith, c.in_ok-push.ensures.items, length_push, inv.as_many);
      guarded = rw c.in_ok-push.ensures.items
          (each_pushed (IsGuardedAt m (old ++ c.in-Some.system ∷ []) c.args.places.now) xs _
          (λ i o there x place sx sp. inv.guarded i o there x place
          (let within = slice_get_within xs i o there in
          grind (arith, inv.as_many, within, sx, get_or_append_left, get_or_default, length_push, slice_get_cases)) sp)
          (λ x place sx sp. grind (
            arith,
            inv.as_many,
            sx,
            sp,
            c.in_ok-boxed.ensures,
            c.in_ok-guards.ensures,
            c.as_slice.ensures,
            c.index-places-len.is,
            c.len.ensures,
            get_or_push,
            get_or_default,
            get_or_from_slice_get,
            length_push,
            slice_get_cases,
          )));
    }
