-- What stands in a list or an option, in a list with an item set, and in a longer one.
use Rattle.std.proofs.Common.{◌≡◌, ◌≢◌, ℕ, ◌<◌, ◌++◌, List, [], ◌∷◌, length, set, Option, None, Some, option_map, refl, arith, zero, suc, IsSomeAnd, slice_get, Result, Ok, Err, OnErr}
use Rattle.std.proofs.lemmas.{Bool.cases_order, List.get_or-set_other, List.get_or-set_same, List.get_or_append_left, List.get_or_default, List.get_or_push, List.length-set, List.length_push, Option.slice_get_cases}
use Rattle.msg_exec.specs.Prelude.{EachIs}
use Rattle.std.specs.List.{AllZip}

-- ---- what stands in an option, and at an index

-- what is said to be there
pub some_of : {X : Type 0} {P : X → Type 0} (o : Option X) → IsSomeAnd o P → (x : X) × ((o ≡ Some x) × P x)
some_of (Some x) is = (x, (refl, is))
some_of None is = absurd is

-- the same of what is made of it
pub some_under : {X Y : Type 0} (P : Y → Type 0) (f : X → Y) (o : Option X) → IsSomeAnd (option_map f o) P
    → (x : X) × ((o ≡ Some x) × P (f x))
some_under P f (Some x) is = (x, (refl, is))
some_under P f None is = absurd is

-- what holds of a call, if it was refused
pub if_refused : {T E P : Type 0} (r : Result T E) → P → OnErr r P
if_refused (Ok x) p = tt
if_refused (Err e) p = p

-- there is an item at each index below the length
pub item_at : {X : Type 0} (xs : List X) (i : ℕ) → i < length xs → (x : X) × (slice_get xs i ≡ Some x)
item_at [] i lt = absurd (omega (arith, lt))
item_at (x ∷ xs) zero lt = (x, refl)
item_at (x ∷ xs) (suc i) lt = item_at xs i (omega (arith, lt))

-- two lists side by side, by the items at each index
pub zip_of_each : {X Y : Type 0} (R : X → Y → Type 0) (xs : List X) (ys : List Y) → length ys ≡ length xs
    → ((k : ℕ) (x : X) (y : Y) → slice_get xs k ≡ Some x → slice_get ys k ≡ Some y → R x y) → AllZip R xs ys
zip_of_each R [] [] many each = tt
zip_of_each R [] (y ∷ ys) many each = absurd (omega (arith, many))
zip_of_each R (x ∷ xs) [] many each = absurd (omega (arith, many))
zip_of_each R (x ∷ xs) (y ∷ ys) many each =
    (each 0 x y refl refl, zip_of_each R xs ys (omega (arith, many)) (λ k. each (suc k)))

-- ---- a list with one item set

pub get_other : {X : Type 0} (xs : List X) (i k : ℕ) (x : X) → k ≢ i → slice_get (set xs i x) k ≡ slice_get xs k
get_other xs i k x other = grind (arith, slice_get_cases, get_or_default, get_or-set_other, length-set)

pub get_same : {X : Type 0} (xs : List X) (i : ℕ) (x : X) → i < length xs → slice_get (set xs i x) i ≡ Some x
get_same xs i x lt = grind (arith, slice_get_cases, get_or-set_same, length-set)

-- ---- a list with one item more

module _ {X : Type 0} where
  pub each_pushed : (P : ℕ → X → Type 0) (xs : List X) (y : X) → EachIs P xs → P (length xs) y → EachIs P (xs ++ y ∷ [])
  each_pushed P xs y each here i x is =
      grind (arith, cases_order, get_or_append_left, get_or_default, get_or_push, length_push, slice_get_cases)
