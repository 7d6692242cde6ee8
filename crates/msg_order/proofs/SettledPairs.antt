-- Pairs taken in turn: what they add, keep and reach.
use Rattle.std.proofs.Common.{Bool, Contains, IsTrue, List, [], ap, arith, cond, false, flat_map, inl, inr, map, nat_lt, not, refl, true, ℕ, ◌&&◌, ◌++◌, ◌+◌, ◌-◌, ◌<◌, ◌==◌, ◌||◌, ◌∷◌, ◌≡◌, ◌⊎◌}
use Rattle.std.specs.List.{list_any, range_with_len}
use Rattle.std.proofs.lemmas.{Bool.and_parts, Bool.cases_Bool, Bool.Decides.eqb_tells, Bool.Decides.nat_tests, Grind.flat_map-append, List.append-nil}
use Rattle.msg_order.specs.{Graph.path, Prelude.Graph, Prelude.pairs, Prelude.settle}
use Rattle.msg_order.proofs.Elements.{Contains-cases, Contains-flat_map, Contains-head, Contains-map, Contains-range, Contains-tail, flat_map-Contains, map-Contains, not_in_none, range-Contains, range_more}

module _ (test : ℕ → ℕ → Bool) where
  -- some pairs after others
  pub settle_append : (ps qs g : Graph) → settle test g (ps ++ qs) ≡ settle test (settle test g ps) qs
  settle_append [] qs g = refl
  settle_append (p ∷ ps) qs g = settle_append ps qs _

  -- What holds of the first graph, and is kept as a pair gains its edge, holds of the last.
  pub settle_keeps : (P : Graph → Type 0) (ps g : Graph)
      → ((p : ℕ × ℕ) (k : Graph) → Contains ps p → IsTrue (test p.0 p.1) → path k p.1 p.0 ≡ false → P k → P (p ∷ k))
      → P g → P (settle test g ps)
  settle_keeps P [] g step first = first
  settle_keeps P (p ∷ ps) g step first =
      let later = λ (q : ℕ × ℕ) (k : Graph) (m : Contains ps q). step q k (Contains-tail p ps q m) in
      elim (cases_Bool (test p.0 p.1 && not (path g p.1 p.0))) [
        | inl e ↦
            let gains = and_parts (test p.0 p.1) (not (path g p.1 p.0)) e in
            rw e (settle_keeps P ps (p ∷ g) later
            (step p g (Contains-head p ps) gains.0 (grind (arith, cases_Bool (path g p.1 p.0), gains.1)) first))
        | inr e ↦ rw e (settle_keeps P ps g later first)
      ]

  -- Between each of the pairs that are in conflict there is a path one way or the other.
  pub settle_covers : (ps g : Graph) (i j : ℕ) → Contains ps (i, j) → IsTrue (test i j)
      → (path (settle test g ps) i j ≡ true) ⊎ (path (settle test g ps) j i ≡ true)
  settle_covers [] g i j m c = absurd (not_in_none (i, j) m)
  settle_covers (p ∷ ps) g i j m c =
      let next : Graph = cond (test p.0 p.1 && not (path g p.1 p.0)) (p ∷ g) g in
      let stays = λ (a b : ℕ). settle_keeps (λ k. path k a b ≡ true) ps next (λ p k m t f h. grind arith) in
      grind (arith, Contains-cases p ps (i, j) m, cases_Bool (path g j i), eqb_tells, stays i j, stays j i, settle_covers ps next i j)

-- All pairs of numbers below n, up to those of i.
abbrev pub row : ℕ → ℕ → Graph
row n i = map (λ j. (i, j)) (range_with_len (i + 1) (n - (i + 1)))

abbrev pub pairs_until : ℕ → ℕ → Graph
pairs_until n i = flat_map (row n) (range_with_len 0 i)

pub pairs_until-more : (n i : ℕ) → pairs_until n (i + 1) ≡ pairs_until n i ++ row n i
pairs_until-more n i = grind (arith, range_more, flat_map-append, append-nil)

pub pairs-Contains : (n i j : ℕ) → Contains (pairs n) (i, j) → (i < j) × (j < n)
pairs-Contains n i j h =
    let r = flat_map-Contains (row n) (range_with_len 0 n) (i, j) h in
    let m = map-Contains (λ (k : ℕ). (r.0, k)) (range_with_len (r.0 + 1) (n - (r.0 + 1))) (i, j) r.1.1 in
    grind (arith, m, range-Contains (r.0 + 1) (n - (r.0 + 1)) m.0)

pub Contains-pairs : (n i j : ℕ) → i < j → j < n → Contains (pairs n) (i, j)
Contains-pairs n i j h l =
    Contains-flat_map (row n) (range_with_len 0 n) i (i, j) (Contains-range 0 n i (omega arith) (omega arith))
    (Contains-map (λ (k : ℕ). (i, k)) (range_with_len (i + 1) (n - (i + 1))) j
    (Contains-range (i + 1) (n - (i + 1)) j (omega arith) (omega arith)))

-- of the pair of i and a later system t: it is in conflict, and no path leads back, so it gains its edge
abbrev pub gains_edge : (ℕ → ℕ → Bool) → Graph → ℕ → ℕ → Bool
gains_edge conflict g i t = nat_lt i t && (conflict i t && not (path g t i))

-- t gains an edge from i, and is k or one from which a path leads to k
abbrev pub reaches : (ℕ → ℕ → Bool) → Graph → ℕ → ℕ → ℕ → Bool
reaches conflict g i k t = gains_edge conflict g i t && (k == t || path g t k)

-- an edge to one that gains it leaves the others so: it makes no new path to i
same_reach : (conflict : ℕ → ℕ → Bool) (g : Graph) (i j k : ℕ) → i < j → path g j i ≡ false → (t : ℕ)
    → reaches conflict ((i, j) ∷ g) i k t ≡ reaches conflict g i k t
same_reach conflict g i j k lt free t = grind (arith, cases_Bool, nat_tests)

-- the paths, once the pairs of i with these later systems were taken in turn
pub row_paths : (conflict : ℕ → ℕ → Bool) (g : Graph) (i : ℕ) (js : List ℕ) → ((j : ℕ) → Contains js j → i < j) → (x k : ℕ)
    → path (settle conflict g (map (λ j. (i, j)) js)) x k
    ≡ (path g x k || ((x == i || path g x i) && list_any (reaches conflict g i k) js))
row_paths conflict g i [] up x k = grind (arith, cases_Bool)
row_paths conflict g i (j ∷ js) up x k =
    let lt : i < j = up j (Contains-head j js) in
    let later = λ (t : ℕ) (c : Contains js t). up t (Contains-tail j js t c) in
    elim (cases_Bool (conflict i j && not (path g j i))) [
      | inr e ↦ rw e (grind (arith, cases_Bool, nat_tests, e, lt, row_paths conflict g i js later x k))
      | inl e ↦
          let free : path g j i ≡ false = grind (arith, cases_Bool, e) in
          let same = ap (λ (p : ℕ → Bool). list_any p js) (λ n t. same_reach conflict g i j k lt free t n) in
          rw e (grind (arith, cases_Bool, nat_tests, e, lt, free, same, row_paths conflict ((i, j) ∷ g) i js later x k))
    ]
