-- Bits of masks, as tests.
use Rattle.std.proofs.Common.{◌≡◌, ◌≢◌, ℕ, zero, suc, ◌+◌, ◌*◌, ◌-◌, ◌/◌, ◌^◌, ◌%◌, ◌<◌, ◌≤◌, false, not, ◌&&◌, ◌||◌, ◌⊎◌, inl, inr, ap, sym, ◌∙◌, arith, w64, ◌==◌, ◌↔◌, IsTrue, bit_and, bit_or}
use Rattle.std.proofs.{Math.Nat.div-le_self, lemmas.Nat.shr-shr}
use Rattle.std.proofs.lemmas.Bool.{cases_lt, cases_eq, or_cases, eqb-true, eq-eqb, eqb-false, not-true, false≢true}
use Rattle.std.proofs.lemmas.Bool.Decides.{eqb_tells, nat_tests}
use Rattle.std.proofs.lemmas.Nat.Bits.{bit_at_lowest, bit_at-suc, bit_at_and, bit_at_or, bit_at_not, bit_at_above, bit_at-zero, bit_at-lt, bit_at_set_same, bit_at_set_other, bit_at_clear_same, bit_at_clear_other, bit_at-trailing_zeros}
use lib.Bits.{and_le_l}
use Rattle.std.specs.Int.{bit_at, bit_not, trailing_zeros}
use Rattle.msg_world.specs.{Prelude.has_bit, inner.Masks.ShareBit, inner.Masks.IsBelow}

pub has_bit-zero : (k : ℕ) → has_bit 0 k ≡ false
has_bit-zero k = ap (λ n. n == 1) (bit_at-zero k)

pub has_bit-or : (a b k : ℕ) → has_bit (bit_or a b) k ≡ (has_bit a k || has_bit b k)
has_bit-or a b k = grind (arith, nat_tests, bit_at_or a b k, bit_at-lt a k, bit_at-lt b k)

pub has_bit-and : (a b k : ℕ) → has_bit (bit_and a b) k ≡ (has_bit a k && has_bit b k)
has_bit-and a b k = grind (arith, nat_tests, bit_at_and a b k, bit_at-lt a k, bit_at-lt b k)

-- a mask of 64 bits has none from 64 on
pub has_bit-above : (a k : ℕ) → a < 2 ^ 64 → 64 ≤ k → has_bit a k ≡ false
has_bit-above a k h l = ap (λ n. n == 1) (bit_at_above a 64 k h l)

pub has_bit-clear : (a b k : ℕ) → a < 2 ^ 64 → b < 2 ^ 64 → has_bit (bit_and a (bit_not w64 b)) k
    ≡ (has_bit a k && not (has_bit b k))
has_bit-clear a b k la lb =
    let inverted = bit_at_not w64 b k lb in
    grind (arith, nat_tests, cases_lt k 64, has_bit-and, inverted, bit_at-lt b k, has_bit-above a k la)

-- `mask | (1 << k)`
pub has_bit-set : (mask k j : ℕ) → k < 64 → has_bit (bit_or mask (1 * 2 ^ k % 2 ^ 64)) j ≡ (j == k || has_bit mask j)
has_bit-set mask k j h =
    grind (arith, eqb_tells, cases_eq j k, bit_at_set_same w64 mask k h, bit_at_set_other w64 mask k h j)

-- `mask & !(1 << k)`
pub has_bit-unset : (mask k j : ℕ) → k < 64 → j < 64 → has_bit (bit_and mask (bit_not w64 (1 * 2 ^ k % 2 ^ 64))) j
    ≡ (not (j == k) && has_bit mask j)
has_bit-unset mask k j h l =
    grind (arith, eqb_tells, cases_eq j k, bit_at_clear_same w64 mask k h, bit_at_clear_other w64 mask k h j l)

-- the same of a mask of 64 bits
pub has_bit-without : (mask k j : ℕ) → mask < 2 ^ 64 → k < 64
    → has_bit (bit_and mask (bit_not w64 (1 * 2 ^ k % 2 ^ 64))) j ≡ (not (j == k) && has_bit mask j)
has_bit-without mask k j fits h =
    grind (arith, cases_lt j 64, has_bit-unset mask k j h, has_bit-and, has_bit-above mask j fits)

-- it is less if the bit was set
pub less-without : (mask k : ℕ) → k < 64 → IsTrue (has_bit mask k)
    → bit_and mask (bit_not w64 (1 * 2 ^ k % 2 ^ 64)) < mask
less-without mask k h set =
    let cleared = bit_at_clear_same w64 mask k h in
    let no_more = and_le_l mask (bit_not w64 (1 * 2 ^ k % 2 ^ 64)) in
    grind (arith, nat_tests, cleared, no_more, set)

-- the lowest bit of a mask that isn't 0
pub lowest_is_set : (n : ℕ) → n < 2 ^ 64 → n ≢ 0 → IsTrue (has_bit n (trailing_zeros w64 n))
lowest_is_set n fits ne =
    eq-eqb (bit_at n (trailing_zeros w64 n)) 1 (bit_at-trailing_zeros w64 n (omega arith) fits).1

-- and no bit below it is set
pub none_below_lowest : (n : ℕ) → n < 2 ^ 64 → n ≢ 0 → (k : ℕ) → k < trailing_zeros w64 n
    → IsTrue (not (has_bit n k))
none_below_lowest n fits ne k lt =
    ap (λ b. not (b == 1)) ((bit_at-trailing_zeros w64 n (omega arith) fits).2 k lt)

-- a mask that isn't 0 has a bit
pub some_bit : (n : ℕ) → n < 2 ^ 64 → n ≢ 0 → (k : ℕ) × ((k < 64) × IsTrue (has_bit n k))
some_bit n fits ne =
    (trailing_zeros w64 n, ((bit_at-trailing_zeros w64 n (omega arith) fits).0, lowest_is_set n fits ne))

-- whatever its size
some_bit_of : (fuel n : ℕ) → n ≤ fuel → n ≢ 0 → (k : ℕ) × IsTrue (has_bit n k)
some_bit_of zero n h ne = absurd (omega arith)
some_bit_of (suc fuel) n h ne = elim (cases_eq (n % 2) 1) [
  | inl e ↦ (0, eq-eqb (bit_at n 0) 1 (bit_at_lowest n ∙ e))
  | inr o ↦
      let r = some_bit_of fuel (n / 2) (omega arith) (omega arith) in
      (suc r.0, ap (λ b. b == 1) (bit_at-suc n r.0) ∙ r.1)
]

-- the test `n != 0`
has_some : (n : ℕ) → IsTrue (not (n == 0)) ↔ ((k : ℕ) × IsTrue (has_bit n k))
has_some n = (
  λ t. some_bit_of n _ (omega arith) (eqb-false n 0 (not-true (n == 0) t)),
  λ s. grind (arith, eqb_tells, has_bit-zero s.0, s.1),
)

-- the test `a & b != 0`
pub share_bit-and : (a b : ℕ) → IsTrue (not (bit_and a b == 0)) ↔ ShareBit a b
share_bit-and a b = (
  λ t. let bit = (has_some (bit_and a b)).0 t in (bit.0, sym (has_bit-and a b bit.0) ∙ bit.1),
  λ s. (has_some (bit_and a b)).1 (s.0, has_bit-and a b s.0 ∙ s.1),
)

-- the test `a | b != 0`
pub has_some-or : (a b : ℕ) → IsTrue (not (bit_or a b == 0))
    ↔ (((k : ℕ) × IsTrue (has_bit a k)) ⊎ ((k : ℕ) × IsTrue (has_bit b k)))
has_some-or a b = (
  λ t.
      let bit = (has_some (bit_or a b)).0 t in
      elim (or_cases (has_bit a bit.0) (has_bit b bit.0) (sym (has_bit-or a b bit.0) ∙ bit.1)) [
        | inl is ↦ inl (bit.0, is)
        | inr is ↦ inr (bit.0, is)
      ],
  elim [
    | inl s ↦ (has_some (bit_or a b)).1 (s.0, grind (arith, has_bit-or a b s.0, s.1))
    | inr s ↦ (has_some (bit_or a b)).1 (s.0, grind (arith, has_bit-or a b s.0, s.1))
  ],
)

-- bit k of a mask that was shifted
shifted : (mask n k : ℕ) → has_bit (mask / 2 ^ n) k ≡ has_bit mask (n + k)
shifted mask n k = ap (λ m. m % 2 == 1) (shr-shr mask n k)

-- no bit is set from n on if nothing is left of the mask
pub none_from : (mask n : ℕ) → mask / 2 ^ n ≡ 0 → (k : ℕ) → n ≤ k → has_bit mask k ≡ false
none_from mask n gone k le = grind (arith, shifted mask n (k - n), has_bit-zero (k - n))

-- the next bit that is set from n on
module _ (mask n : ℕ) (fits : mask < 2 ^ 64) (some : mask / 2 ^ n ≢ 0) where
  pub next_is_set : IsTrue (has_bit mask (n + trailing_zeros w64 (mask / 2 ^ n)))
  next_is_set =
      let lowest = bit_at-trailing_zeros w64 (mask / 2 ^ n) (omega arith) (omega (arith, div-le_self mask (2 ^ n))) in
      grind (arith, eqb_tells, lowest.1, shifted mask n (trailing_zeros w64 (mask / 2 ^ n)))

  pub next_is_below : n + trailing_zeros w64 (mask / 2 ^ n) < 64
  next_is_below = grind (arith, cases_lt, false≢true, has_bit-above, next_is_set)

  pub none_before_next : (k : ℕ) → n ≤ k → k < n + trailing_zeros w64 (mask / 2 ^ n) → has_bit mask k ≡ false
  none_before_next k le lt =
      let lowest = bit_at-trailing_zeros w64 (mask / 2 ^ n) (omega arith) (omega (arith, div-le_self mask (2 ^ n))) in
      grind (arith, nat_tests, shifted mask n (k - n), lowest.2 (k - n))

-- the test `mask >> n == 0`
pub shr-is_below : (mask n : ℕ) → mask < 2 ^ 64 → IsTrue (mask / 2 ^ n == 0) ↔ IsBelow mask n
shr-is_below mask n fits = (
  λ t k bit. grind (arith, cases_lt k n, eqb-true (mask / 2 ^ n) 0 t, none_from mask n),
  λ below. grind (arith, nat_tests, next_is_set mask n fits, below),
)

-- what the functions of masks are proved by
pub ruleset of_masks = (
  has_bit-or,
  has_bit-set,
  has_bit-clear,
  has_bit-above,
  has_bit-without,
  has_some-or,
  less-without,
  lowest_is_set,
  none_below_lowest,
  share_bit-and,
  shr-is_below,
)
