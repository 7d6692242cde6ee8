-- What holds of each element of a list, and of each pair, and what stands where.
use Rattle.std.proofs.Common.{All, AllPairs, Contains, List, [], ap, arith, get_or-append-add, inl, inr, length, length-append, ◌++◌, ◌+◌, ◌∷◌, ◌≡◌}
use Rattle.std.proofs.lemmas.{List.get_or_append_left, List.Elements.All-cons, List.Elements.All-head, List.Elements.All-tail, List.Sorted.All-permutation, List.Sorted.IsPermutation-middle, List.Kept.AllPairs-cons}
use Rattle.msg_order.proofs.Elements.{Contains-cases, not_in_none}
pub use Rattle.msg_order.proofs.Elements.{pairs_head, pairs_tail}

module _ {X : Type 0} where
  pub pairs_left : (R : X → X → Type 0) (xs ys : List X) → AllPairs R (xs ++ ys) → AllPairs R xs
  pairs_left R xs ys r i j d lt l =
      grind (arith, get_or_append_left xs ys d, length-append xs ys, r i j d lt)

  pub pairs_right : (R : X → X → Type 0) (xs ys : List X) → AllPairs R (xs ++ ys) → AllPairs R ys
  pairs_right R xs ys r i j d lt l =
      grind (arith, get_or-append-add xs ys, length-append xs ys, r (length xs + i) (length xs + j) d)

  pub all_middle : (P : X → Type 0) (xs : List X) (y : X) (ys : List X) → All P (xs ++ y ∷ ys) → P y × All P (xs ++ ys)
  all_middle P xs y ys h =
      let moved = All-permutation P _ _ (IsPermutation-middle xs y ys) h in
      (All-head P y (xs ++ ys) moved, All-tail P y (xs ++ ys) moved)

  pub pairs_middle : (R : X → X → Type 0) (xs : List X) (y : X) (ys : List X) → AllPairs R (xs ++ y ∷ ys)
      → All (λ x. R x y) xs × AllPairs R (xs ++ ys)
  pairs_middle R [] y ys h = (λ k d lt. absurd (omega arith), pairs_tail R y ys h)
  pairs_middle R (x ∷ xs) y ys h =
      let r = pairs_middle R xs y ys (pairs_tail R x _ h) in
      let e = all_middle (R x) xs y ys (pairs_head R x _ h) in
      (All-cons (λ z. R z y) _ _ e.0 r.0, AllPairs-cons R _ _ e.1 r.1)

  -- a list cut where an element stands
  pub record Cut (xs : List X) (x : X) : Type 0 where
    pub before : List X
    pub rest : List X
    pub is : xs ≡ before ++ x ∷ rest

  pub cut : (xs : List X) (x : X) → Contains xs x → Cut xs x
  cut [] x h = absurd (not_in_none x h)
  cut (y ∷ ys) x h = elim (Contains-cases _ _ _ h) [
    | inl e ↦ record { before = []; rest = ys; is = ap (λ z. z ∷ ys) e }
    | inr later ↦ let c = cut ys x later in record { before = y ∷ c.before; rest = c.rest; is = ap (λ zs. y ∷ zs) c.is }
  ]
