-- The systems of a batch go out, one after the other, and their jobs may be run.
use Rattle.std.proofs.Common.{◌≡◌, ℕ, ◌<◌, true, List, [], ◌∷◌, ◌++◌, length, refl, ap, ◌∙◌, arith, All, Contains, IsSome, is_some, slice_get, ◌≢◌, ◌+◌, get_or, sym, take}
use Rattle.std.proofs.lemmas.Bool.{cases_Bool, cases_eq, or_left}
use Rattle.std.proofs.lemmas.List.{get_or-set_other, length-set, take_more}
use Rattle.std.proofs.lemmas.Slice.Zip.{AllZip-right, all_zipped_more}
use Rattle.std.proofs.lemmas.Option.{get_or_from_slice_get, slice_get_within}
use Rattle.std.proofs.lemmas.List.Elements.{Contains-get_or, Contains-append_left, All-contains, Contains-push}
use Rattle.msg_exec.proofs.{ItemsOfLists.some_of, BatchWritesApart.any_more, BatchWritesApart.earlier_write_not, BatchWritesApart.others_write_not, BatchWritesApart.written_is_used, BatchWritesApart.each_before, BatchWritesApart.Free}
use Rattle.msg_world.specs.{declared.part.Part.Part, Prelude.IsHome, Prelude.PartsStand, Prelude.slot, Prelude.writes, Prelude.Values}
use Rattle.msg_order.specs.Prelude.{access_of}
use Rattle.msg_system.specs.Prelude.{Meaning}
use Rattle.msg_exec.specs.Prelude.{JobView, Lender, LenderStands, MayRun, system_at}
use Rattle.msg_workers.specs.Prelude.{EachMay}
use Rattle.msg_frames.specs.Prelude.{State}
use Rattle.msg_exec.specs.inner.{Batches.IsBatch, SystemsOut.AreOut, SystemsOut.GoesOut, SystemsOut.IsOut}

-- ---- a batch, and one more of its systems goes out

module _ {S V : Type 0} where
  -- a system of the batch may go out after the others
  pub record MayGo (g : Lender S V) (i : ℕ) : Type 0 where
    pub number : i < length g.accesses.items
    pub there : IsSome (system_at g i)
    pub home : IsHome (access_of g.accesses.items i) g.world

module _ {S V : Type 0} {values : Values V} (meaning : S → Meaning V) where
  -- whichever state the lender stands for, it is of as many systems
  pub is_batch : {whole : Lender S V} {s u : State values} {batch : List ℕ} → IsBatch meaning whole s batch
      → LenderStands meaning whole u → IsBatch meaning whole u batch
  is_batch was there = record {
    stands = there;
    below = rw (sym was.stands.accesses ∙ there.accesses) at was.below;
    once = was.once;
    apart = was.apart;
  }

  module _ {whole old : Lender S V} {s : State values} {batch : List ℕ} {js : List (JobView S V)} {k : ℕ}
      (is : IsBatch meaning whole s batch) (lt : k < length batch) (out : AreOut whole (take k batch) js old) where
    abbrev next : ℕ
    next = get_or batch k 0

    fresh : ¬ Contains (take k batch) next
    fresh there =
        All-contains (λ x. x ≢ next) (take k batch) next (each_before (λ a b. a ≢ b) batch k 0 lt is.once) there refl

    free : All (λ x. Free whole.accesses.items x next) (take k batch)
    free = each_before (Free whole.accesses.items) batch k 0 lt is.apart

    pub may_go : MayGo old next
    may_go =
        let its = is.stands.members next (is.below k 0 lt) in
        let unwritten = λ (p : Part). earlier_write_not whole.accesses.items (take k batch) next p free in
        grind (arith, fresh, its, unwritten)

    module _ {new : Lender S V} {j : JobView S V} (goes : GoesOut old next j new) where
      its : j.access ≡ access_of whole.accesses.items next
      its = goes.access ∙ ap (λ xs. access_of xs next) out.accesses

      -- what it writes is still there
      unlent : (p : Part) → writes j.access p ≡ true → slot p old.world ≡ slot p whole.world
      unlent p written = out.world p
          ∙ rw (earlier_write_not whole.accesses.items (take k batch) next p free
          (written_is_used _ p (rw its at written))) refl

      is_out : IsOut whole next j
      is_out = grind (arith, cases_Bool, its, unlent, fresh)

      pub one_more_out : AreOut whole (take (k + 1) batch) (js ++ j ∷ []) new
      one_more_out = rw (take_more batch k 0 lt) (record {
        each = all_zipped_more (IsOut whole) (take k batch) js next j out.each is_out;
        size = grind (arith, goes.lent.left_size, out.size);
        world = λ p. rw (any_more, ← its) (grind (arith, cases_Bool, goes.lent.stayed p, out.world p));
        as_many = grind (arith, length-set);
        others = λ n away.
            let earlier = Contains-append_left (take k batch) (next ∷ []) n in
            let last = Contains-push (take k batch) next in
            grind (arith, cases_eq, earlier, get_or-set_other, last);
        accesses = goes.accesses ∙ out.accesses;
        totals = goes.totals ∙ out.totals;
      })

  -- ---- what is out

  -- a job has all that its access writes
  pub has_written : (whole : Lender S V) (s : State values) (i : ℕ) (j : JobView S V) → LenderStands meaning whole s
      → i < s.systems → IsOut whole i j
      → (p : Part) → is_some (slot p j.taken) ≡ writes j.access p
  has_written whole s i j stands lt out p = grind (arith, cases_Bool, written_is_used)

  pub all_may_run : {whole left : Lender S V} {s : State values} {batch : List ℕ} {js : List (JobView S V)} → IsBatch meaning whole s batch
      → AreOut whole batch js left → EachMay (MayRun meaning left.world) js
  all_may_run {whole} {s = s} {batch} {js} is out k j at =
      let (i, (found, its)) = some_of (slice_get batch k) (rw at at (AllZip-right (IsOut whole) batch js out.each k)) in
      let there : Contains batch i = rw (get_or_from_slice_get batch k i i found)
      at (Contains-get_or batch k i (slice_get_within batch k i found)) in
      let lt : i < s.systems = All-contains (λ i. i < s.systems) batch i is.below there in
      grind (arith, has_written, its, lt, or_left, others_write_not, is.stands.members i lt, there)

  -- ---- what they stand for

  -- what is left stands for what stood there
  pub left_stands : (whole left : Lender S V) (s : State values) (is : List ℕ) (js : List (JobView S V))
      → PartsStand whole.world s.world → AreOut whole is js left → PartsStand left.world s.world
  left_stands whole left s is js stands out p = grind (arith, cases_Bool)
