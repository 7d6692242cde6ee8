-- What no system of a batch writes, if no two of them conflict.
use Rattle.std.proofs.Common.{◌≡◌, ℕ, ◌<◌, ◌||◌, false, List, [], ◌∷◌, ◌++◌, length, get_or, take, refl, inl, inr, arith, All, AllPairs, Contains, IsTrue}
use Rattle.std.proofs.Math.Bool.{or-false, or_assoc}
use Rattle.std.proofs.lemmas.{Bool.and_from, Bool.false_from_ne_true, Bool.or_right, List.get_or-take, List.get_or_default, List.length-take-le, List.Elements.All-contains, List.Elements.All-head, List.Elements.All-tail}
use Rattle.msg_world.specs.declared.access.Access.{Access}
use Rattle.msg_world.specs.{declared.part.Part.Part, Prelude.Conflict, Prelude.reads, Prelude.uses, Prelude.writes}
use Rattle.msg_order.specs.Prelude.{NoneConflict, access_of}
use Rattle.msg_exec.specs.inner.SystemsOut.{any_writes}
use Rattle.msg_frames.proofs.ElementsAndPairs.{pairs_head, pairs_tail}
use Rattle.msg_order.proofs.Elements.{Contains-cases}

-- ---- a list up to an element

-- what holds of each pair of elements holds of each element before place k with the element at k
pub each_before : {X : Type 0} (R : X → X → Type 0) (xs : List X) (k : ℕ) (d : X) → k < length xs → AllPairs R xs
    → All (λ x. R x (get_or xs k d)) (take k xs)
each_before R xs k d lt pairs m e below =
    let earlier : m < k = omega (arith, below, length-take-le k xs (omega (arith, lt))) in
    rw (get_or-take k xs m e earlier, ← get_or_default xs k e d lt) (pairs m k e earlier lt)

-- ---- one of two

-- of two accesses that don't conflict, the first writes nothing that the second uses
pub first_unwritten : (a b : Access) (p : Part) → ¬ Conflict a b → IsTrue (uses b p) → writes a p ≡ false
first_unwritten a b p none used =
    false_from_ne_true (writes a p) (λ is. none (p, inl (and_from (writes a p) (uses b p) is used)))

pub written_is_used : (a : Access) (p : Part) → IsTrue (writes a p) → IsTrue (uses a p)
written_is_used a p is = or_right (reads a p) (writes a p) is

-- ---- any of several

module _ (accesses : List Access) where
  -- no conflict between the two
  abbrev pub Free : ℕ → ℕ → Type 0
  Free i j = ¬ Conflict (access_of accesses i) (access_of accesses j)

  none_writes : (is : List ℕ) (p : Part) → All (λ x. writes (access_of accesses x) p ≡ false) is
      → any_writes accesses is p ≡ false
  none_writes [] p all = refl
  none_writes (x ∷ xs) p all =
      rw (All-head (λ x. writes (access_of accesses x) p ≡ false) x xs all)
      (none_writes xs p (All-tail (λ x. writes (access_of accesses x) p ≡ false) x xs all))

  -- what one of them uses none of the earlier ones writes, and none of the later ones
  pub earlier_write_not : (is : List ℕ) (i : ℕ) (p : Part) → All (λ x. Free x i) is
      → IsTrue (uses (access_of accesses i) p) → any_writes accesses is p ≡ false
  earlier_write_not is i p all used =
      none_writes is p (λ k d lt. first_unwritten _ (access_of accesses i) p (all k d lt) used)

  pub later_write_not : (is : List ℕ) (i : ℕ) (p : Part) → All (Free i) is → IsTrue (uses (access_of accesses i) p)
      → any_writes accesses is p ≡ false
  later_write_not is i p all used =
      none_writes is p (λ k d lt. first_unwritten _ (access_of accesses i) p
      (λ found. all k d lt (found.0, elim found.1 [ inl one ↦ inr one | inr other ↦ inl other ])) used)

  -- what one of them only reads none of them writes
  pub others_write_not : (is : List ℕ) (i : ℕ) (p : Part) → NoneConflict accesses is → Contains is i
      → IsTrue (uses (access_of accesses i) p) → writes (access_of accesses i) p ≡ false
      → any_writes accesses is p ≡ false
  others_write_not [] i p none there used isnt = refl
  others_write_not (x ∷ xs) i p none there used isnt = elim (Contains-cases x xs i there) [
    | inl same ↦ rw (same, isnt) (later_write_not xs i p (rw same at (pairs_head Free x xs none)) used)
    | inr later ↦ rw (first_unwritten (access_of accesses x) (access_of accesses i) p
        (All-contains (Free x) xs i (pairs_head Free x xs none) later) used)
        (others_write_not xs i p (pairs_tail Free x xs none) later used isnt)
  ]

  pub any_more : (is : List ℕ) (i : ℕ) (p : Part) → any_writes accesses (is ++ i ∷ []) p
      ≡ (any_writes accesses is p || writes (access_of accesses i) p)
  any_more [] i p = or-false (writes (access_of accesses i) p)
  any_more (x ∷ xs) i p = rw (any_more xs i p, or_assoc) refl
