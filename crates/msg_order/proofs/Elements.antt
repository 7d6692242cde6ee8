-- What stands in a list that was made from others.
use Rattle.std.proofs.Common.{All, AllPairs, Bool, Contains, List, [], ap, arith, false, filter, flat_map, get_or, inl, inr, map, refl, suc, true, zero, ℕ, ◌++◌, ◌+◌, ◌-◌, ◌<◌, ◌∙◌, ◌∷◌, ◌≡◌, ◌≤◌, ◌⊎◌}
use Rattle.std.specs.List.{concat, list_any, range_with_len}
use Rattle.std.proofs.lemmas.Bool.{cases_Bool}
use Rattle.std.proofs.lemmas.List.{append-nil, get_or-map, length-map, map-id}
use Rattle.std.proofs.lemmas.List.Elements.{All-contains, All-contains_itself, All-filter, All-map, Contains-append_cases, Contains-append_left, Contains-append_right, Contains-get_or, filter-append, filter_passes}
use Rattle.std.proofs.lemmas.List.Folds.{Any-from_list_any, list_any_at}
use Rattle.std.proofs.lemmas.List.FromFn.{get_or-range_with_len, length-range_with_len, map-range_with_len_more}
use Rattle.msg_order.specs.Prelude.{batch_at}

module _ {X : Type 0} where
  pub Contains-head : (x : X) (xs : List X) → Contains (x ∷ xs) x
  Contains-head x xs = (0, omega arith, refl)

  pub Contains-tail : (x : X) (xs : List X) (y : X) → Contains xs y → Contains (x ∷ xs) y
  Contains-tail x xs y h = (suc h.0, omega (arith, h.1), h.2)

  pub Contains-cases : (x : X) (xs : List X) (y : X) → Contains (x ∷ xs) y → (x ≡ y) ⊎ Contains xs y
  Contains-cases x xs y h = grind arith

  pub not_in_none : (y : X) → Contains {X = X} [] y → ⊥
  not_in_none y h = absurd (omega (arith, h.1))

  -- ---- pairs in order

  pub pairs_head : (R : X → X → Type 0) (x : X) (xs : List X) → AllPairs R (x ∷ xs) → All (R x) xs
  pairs_head R x xs r k d lt = r 0 (suc k) d (omega arith) (omega arith)

  pub pairs_tail : (R : X → X → Type 0) (x : X) (xs : List X) → AllPairs R (x ∷ xs) → AllPairs R xs
  pairs_tail R x xs r i j d lt l = r (suc i) (suc j) d (omega arith) (omega arith)

  -- ---- those that pass a test

  module _ (p : X → Bool) where
    pub filter-Contains : (xs : List X) (y : X) → Contains (filter p xs) y → Contains xs y × (p y ≡ true)
    filter-Contains xs y h = (
      All-contains (Contains xs) (filter p xs) y (All-filter p (Contains xs) xs (All-contains_itself xs)) h,
      All-contains (λ x. p x ≡ true) (filter p xs) y (filter_passes p xs) h,
    )

    pub Contains-filter : (xs : List X) (y : X) → Contains xs y → p y ≡ true → Contains (filter p xs) y
    Contains-filter [] y h t = absurd (not_in_none y h)
    Contains-filter (x ∷ xs) y h t =
        grind (arith, cases_Bool (p x), Contains-cases x xs y h, Contains-filter xs y, Contains-tail x (filter p xs) y)

    pub list_any-Contains : (xs : List X) (x : X) → Contains xs x → p x ≡ true → list_any p xs ≡ true
    list_any-Contains xs x h t = list_any_at p xs h.0 x h.1 (ap p h.2 ∙ t)

    pub Contains-list_any : (xs : List X) → list_any p xs ≡ true → (x : X) × (Contains xs x × (p x ≡ true))
    Contains-list_any xs h = let a = Any-from_list_any p xs h in (a.1, ((a.0, a.2, a.3), a.4))

-- ---- lists of what a function gives

module _ {X Y : Type 0} where
  pub map-Contains : (f : X → Y) (xs : List X) (y : Y) → Contains (map f xs) y → (x : X) × (Contains xs x × (f x ≡ y))
  map-Contains f xs y h =
      let P : Y → Type 0 = λ z. (x : X) × (Contains xs x × (f x ≡ z)) in
      All-contains P (map f xs) y (All-map P f xs (λ k d lt. (get_or xs k d, (Contains-get_or xs k d lt, refl)))) h

  pub Contains-map : (f : X → Y) (xs : List X) (x : X) → Contains xs x → Contains (map f xs) (f x)
  Contains-map f xs x h = (h.0, omega (arith, length-map xs f, h.1), get_or-map f xs h.0 x (f x) h.1 ∙ ap f h.2)

  pub flat_map-Contains : (f : X → List Y) (xs : List X) (y : Y) → Contains (flat_map f xs) y → (x : X)
      × (Contains xs x × Contains (f x) y)
  flat_map-Contains f [] y h = absurd (not_in_none y h)
  flat_map-Contains f (x ∷ xs) y h =
      let cases = Contains-append_cases (f x) (flat_map f xs) y h in
      grind (arith, cases, flat_map-Contains f xs y, Contains-head x xs, Contains-tail x xs)

  pub Contains-flat_map : (f : X → List Y) (xs : List X) (x : X) (y : Y) → Contains xs x → Contains (f x) y
      → Contains (flat_map f xs) y
  Contains-flat_map f [] x y h k = absurd (not_in_none x h)
  Contains-flat_map f (z ∷ xs) x y h k =
      let left = Contains-append_left (f z) (flat_map f xs) y in
      let right = Contains-append_right (f z) (flat_map f xs) y in
      grind (arith, Contains-cases z xs x h, left, right, Contains-flat_map f xs x y)

-- ---- lists of lists

-- what stands in some batch
pub concat-Contains : (xss : List (List ℕ)) (y : ℕ) → Contains (concat xss) y → (b : ℕ) × Contains (batch_at xss b) y
concat-Contains [] y h = absurd (not_in_none y h)
concat-Contains (xs ∷ xss) y h = elim (Contains-append_cases xs (concat xss) y h) [
  | inl s ↦ (0, s)
  | inr t ↦ let r = concat-Contains xss y t in (suc r.0, r.1)
]

pub Contains-concat : (xss : List (List ℕ)) (b y : ℕ) → Contains (batch_at xss b) y → Contains (concat xss) y
Contains-concat [] b y h = absurd (not_in_none y h)
Contains-concat (xs ∷ xss) zero y h = Contains-append_left xs (concat xss) y h
Contains-concat (xs ∷ xss) (suc b) y h = Contains-append_right xs (concat xss) y (Contains-concat xss b y h)

-- ---- ranges

pub range-Contains : (a n k : ℕ) → Contains (range_with_len a n) k → (a ≤ k) × (k < a + n)
range-Contains a n k h = grind (arith, length-range_with_len, get_or-range_with_len)

pub Contains-range : (a n k : ℕ) → a ≤ k → k < a + n → Contains (range_with_len a n) k
Contains-range a n k h l =
    (k - a, grind (arith, length-range_with_len), grind (arith, get_or-range_with_len))

pub range_more : (i : ℕ) → range_with_len 0 (i + 1) ≡ range_with_len 0 i ++ i ∷ []
range_more i = let is : 0 + i ≡ i = omega arith in simp map-id at (map-range_with_len_more (λ k. k) 0 i i is)

-- a filter of a range, one number on: it passes or it does not
module _ (p : ℕ → Bool) (i : ℕ) (xs : List ℕ) (so_far : xs ≡ filter p (range_with_len 0 i)) where
  pub filter_takes : p i ≡ true → xs ++ i ∷ [] ≡ filter p (range_with_len 0 (i + 1))
  filter_takes t = grind (arith, range_more, filter-append)

  pub filter_drops : p i ≡ false → xs ≡ filter p (range_with_len 0 (i + 1))
  filter_drops t = grind (arith, range_more, filter-append, append-nil)

module _ (p : ℕ → Bool) where
  skips : (i k : ℕ) → ((j : ℕ) → i ≤ j → j < i + k → p j ≡ false)
      → filter p (range_with_len 0 i) ≡ filter p (range_with_len 0 (i + k))
  skips i zero none = grind arith
  skips i (suc k) none =
      let rest = skips i k (λ j le lt. none j le (omega arith)) in
      let last = none (i + k) (omega arith) (omega arith) in
      grind (arith, range_more (i + k), filter-append, append-nil, rest, last)

  -- numbers that don't pass add nothing
  pub filter_skips : (i n : ℕ) → i ≤ n → ((j : ℕ) → i ≤ j → j < n → p j ≡ false)
      → filter p (range_with_len 0 i) ≡ filter p (range_with_len 0 n)
  filter_skips i n le none =
      let is : i + (n - i) ≡ n = omega arith in
      rw is at (skips i (n - i) (λ j le lt. none j le (omega arith)))

pub ruleset range_filters = (filter_takes, filter_drops)
