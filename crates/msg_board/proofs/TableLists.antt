-- Elements of lists, as the table names them (`get_elem?`) and as clauses do (`slice_get`).
use Rattle.std.proofs.Common.{slice_get, Bool, false, ◌+◌, Some, inl, inr, subst, ◌≢◌, ◌≡◌, ℕ, zero, suc, ◌<◌, List, [], ◌∷◌, ◌++◌, length, get_or, set, replicate, sym, refl, arith, get_or-set_other, get_or-set_same, length-set}
use Rattle.std.proofs.lemmas.{Bool.cases_eq, Bool.cases_lt, List.get_or-replicate, List.get_or_past, List.length-replicate, Option.get_or_from_slice_get, Option.slice_get_read, Option.slice_get_within}
use mathlib.Core.Option.{some, some-injective, some-ne-none}
use lib.ListN.{get_elem?}
use Rattle.atomic_table.proofs.Lists.{at_index, at_set}

-- a list of zeros has 0 at each place
pub zero_at : (n k : ℕ) → (let zeros : List ℕ = replicate n 0 in get_or zeros k 0 ≡ 0)
zero_at n k = grind (arith, cases_lt, get_or-replicate, get_or_past, length-replicate)

-- within a list there is an element
pub there : {A : Type 0} (l : List A) (i : ℕ) → i < length l → (a : A) × (get_elem? l i ≡ some a)
there [] i h = absurd (omega arith)
there (x ∷ xs) zero h = (x, refl)
there (x ∷ xs) (suc i) h = there xs i (omega arith)

-- and where there is an element, that is within the list, and is read there
pub read_at : {A : Type 0} (l : List A) (i : ℕ) (a : A) → get_elem? l i ≡ some a → (i < length l) × (get_or l i a ≡ a)
read_at [] i a e = absurd (some-ne-none a (sym e))
read_at (x ∷ xs) zero a e = (omega arith, some-injective x a e)
read_at (x ∷ xs) (suc i) a e = let r = read_at xs i a e in (omega (arith, r.0), r.1)

-- an element of a table's list is that of a clause's
pub got : {A : Type 0} (l : List A) (i : ℕ) (a : A) → get_elem? l i ≡ some a → slice_get l i ≡ Some a
got l i a e = let r = read_at l i a e in slice_get_read l (length l) i a refl r.0 (sym r.1)

-- and the other way round
pub get_there : {A : Type 0} (l : List A) (i : ℕ) (a : A) → slice_get l i ≡ Some a → get_elem? l i ≡ some a
get_there l i a e = at_index l i a (slice_get_within l i a e) (sym (get_or_from_slice_get l i a a e))

-- a fact of each element holds after one was changed, if it holds of the new one
pub changed : {A : Type 0} (P : A → Type 0) (l : List A) (i : ℕ) (a : A) → P a
    → ((k : ℕ) (b : A) → k ≢ i → get_elem? l k ≡ some b → P b)
    → (k : ℕ) (b : A) → get_elem? (set l i a) k ≡ some b → P b
changed P l i a now others k b is =
    elim (at_set l i k a b is) [ inl t ↦ subst P t.1 now | inr t ↦ others k b t.0 t.1 ]

-- and a fact of each place after one more was put at the end
pub joined : {A : Type 0} (P : ℕ → A → Type 0) (l : List A) (a : A) → P (length l) a
    → ((k : ℕ) (b : A) → get_elem? l k ≡ some b → P k b)
    → (k : ℕ) (b : A) → get_elem? (l ++ a ∷ []) k ≡ some b → P k b
joined P [] a last others zero b e = subst (P 0) (some-injective a b e) last
joined P [] a last others (suc k) b e = absurd (some-ne-none b (sym e))
joined P (x ∷ xs) a last others zero b e = others 0 b e
joined P (x ∷ xs) a last others (suc k) b e = joined (λ n. P (suc n)) xs a last (λ n c. others (suc n) c) k b e

-- if the places below i are false, and place i is set to false, so are those below i + 1
pub false_below : (l now : List Bool) (i : ℕ) → now ≡ set l i false
    → ((k : ℕ) → k < i → get_or l k false ≡ false) → (k : ℕ) → k < i + 1 → get_or now k false ≡ false
false_below l now i is below k h =
    grind (arith, below k, cases_eq k i, cases_lt i, get_or-set_same, get_or-set_other, get_or_past, length-set)
