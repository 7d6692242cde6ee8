-- Sums and counts over lists that change at one place.
use Rattle.std.specs.List.{sum_by}
use Rattle.std.proofs.Common.{Bool, ◌≡◌, ◌≢◌, ℕ, suc, ◌+◌, ◌≤◌, List, [], ◌∷◌, ◌++◌, set, refl, ap, ◌∙◌, arith, cond, ◌==◌}
use Rattle.std.proofs.lemmas.List.Sums.{get_or-le-sum_by, sum_by-append, sum_by-cons, sum_by-set, sum_by_push}
use mathlib.Core.Option.{some}
use lib.ListN.{get_elem?}
use Rattle.atomic_table.proofs.Lists.{set_else}
use Rattle.msg_board.specs.Prelude.{times}
use Rattle.msg_board.proofs.TableLists.{changed, read_at}

module _ {A : Type 0} (g : A → ℕ) where
  -- the sum after one element has changed
  pub sum_by-set_at : (l : List A) (j : ℕ) (v w : A) → get_elem? l j ≡ some v
      → sum_by g (set l j w) + g v ≡ sum_by g l + g w
  sum_by-set_at l j v w e = let at = read_at l j v e in omega (arith, sum_by-set g l j w v at.0, ap g at.1)

  -- no term is above the sum
  pub term_le : (l : List A) (j : ℕ) (v : A) → get_elem? l j ≡ some v → g v ≤ sum_by g l
  term_le l j v e = let at = read_at l j v e in omega (arith, get_or-le-sum_by g l j v at.0, ap g at.1)

  -- nor are two terms together, if z counts 0
  pub terms_le : (z : A) → g z ≡ 0 → (l : List A) (j k : ℕ) (v u : A) → k ≢ j → get_elem? l j ≡ some v
      → get_elem? l k ≡ some u → g v + g u ≤ sum_by g l
  terms_le z none l j k v u n e d =
      omega (arith, sum_by-set_at l j v z e, none, term_le (set l j z) k u (set_else l j k z n ∙ d))

  -- a sum of zeros is 0
  sum_by-zeros : (l : List A) → ((k : ℕ) (u : A) → get_elem? l k ≡ some u → g u ≡ 0) → sum_by g l ≡ 0
  sum_by-zeros [] z = refl
  sum_by-zeros (x ∷ xs) z = omega (arith, z 0 x refl, sum_by-zeros xs (λ k u e. z (suc k) u e), sum_by-cons g x xs)

  -- if every other term is 0, the sum is one term
  pub sole : (z : A) → g z ≡ 0 → (l : List A) (j : ℕ) (v : A) → get_elem? l j ≡ some v
      → ((k : ℕ) (u : A) → k ≢ j → get_elem? l k ≡ some u → g u ≡ 0) → sum_by g l ≡ g v
  sole z none l j v e others =
      let rest = sum_by-zeros (set l j z) (changed (λ u. g u ≡ 0) l j z none others) in
      omega (arith, sum_by-set_at l j v z e, none)

-- 1 if a test is true, as `count_by` adds it
abbrev pub one_if : Bool → ℕ
one_if b = cond b 1 0

-- how often a number stands in two lists, one after the other
pub times-append : (k : ℕ) (xs ys : List ℕ) → times k (xs ++ ys) ≡ times k xs + times k ys
times-append k xs ys = sum_by-append (λ n. one_if (n == k)) xs ys

-- and in a list with one more number at its end
pub times_push : (k : ℕ) (xs : List ℕ) (n : ℕ) → times k (xs ++ n ∷ []) ≡ times k xs + one_if (n == k)
times_push k xs n = sum_by_push (λ m. one_if (m == k)) xs n
