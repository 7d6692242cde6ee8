-- The lists of an outbox.
use Rattle.std.proofs.Common.{◌≡◌, ℕ, ◌<◌, ◌++◌, List, [], ◌∷◌, length, map, get_or, slice_index_or, slice_set, refl, sym, ap, ◌∙◌, arith, inl, inr}
use Rattle.std.proofs.Math.Path.{fun_ext}
use Rattle.std.proofs.lemmas.Bool.{cases_eq, cases_lt, eq-eqb, ne_eqb}
use Rattle.std.proofs.lemmas.List.{get_or-map, get_or-set_same, get_or-set_other, get_or_past, length-map, map-set}
use Rattle.msg_function.specs.Functions.{Answer, nothing, put_all}

-- the answer that lists of values are
abbrev pub answer_in : {V : Type 0} → List (List V) → Answer V
answer_in lists k = slice_index_or lists k []

-- all lists are empty
pub all_empty : {V : Type 0} (lists : List (List V)) → ((k : ℕ) (d : List V) → k < length lists → get_or lists k d ≡ []) → answer_in lists ≡ nothing
all_empty lists empty = fun_ext (λ k. elim (cases_lt k (length lists)) [
  | inl l ↦ empty k [] l
  | inr m ↦ get_or_past lists k [] m
])

-- one list is longer
pub longer : {V : Type 0} (lists : List (List V)) (k : ℕ) (values : List V) → k < length lists
    → answer_in (slice_set lists k (slice_index_or lists k [] ++ values)) ≡ put_all k values (answer_in lists)
longer lists k values lt = fun_ext (λ j. elim (cases_eq j k) [
  | inl e ↦ grind (arith, e, lt, get_or-set_same, eq-eqb)
  | inr ne ↦ grind (arith, ne, get_or-set_other, ne_eqb)
])

-- ---- the same of what has the lists

module _ {X V : Type 0} (f : X → List V) where
  pub all_empty_in : (xs : List X) → ((k : ℕ) (d : X) → k < length xs → f (get_or xs k d) ≡ []) → answer_in (map f xs) ≡ nothing
  all_empty_in [] empty = fun_ext (λ k. refl)
  all_empty_in (x ∷ xs) empty =
      let all : List X = x ∷ xs in
      all_empty (map f all) (λ k d lt. let lt' : k < length all = rw length-map at lt in rw (get_or-map f all k x d lt') (empty k x lt'))

  pub longer_in : (xs : List X) (k : ℕ) (x y : X) (values : List V) → k < length xs → x ≡ get_or xs k x → f y ≡ f x ++ values
      → answer_in (map f (slice_set xs k y)) ≡ put_all k values (answer_in (map f xs))
  longer_in xs k x y values lt at is =
      let here : slice_index_or (map f xs) k [] ≡ f x = get_or-map f xs k x [] lt ∙ ap f (sym at) in
      rw (map-set, is, ← here) (longer (map f xs) k values (rw length-map lt))

  -- the values of a part are those of its list
  pub list_at : (xs : List X) (k : ℕ) (x : X) → k < length xs → x ≡ get_or xs k x → f x ≡ answer_in (map f xs) k
  list_at xs k x lt at = ap f at ∙ sym (get_or-map f xs k x [] lt)
