-- Sets of systems as words of bits.
use Rattle.std.proofs.Common.{Bool, List, arith, bit_and, bit_or, false, get_or, get_or-set_other, get_or-set_same, length, not, refl, slice_set, true, w64, ℕ, ◌%◌, ◌&&◌, ◌*◌, ◌+◌, ◌/◌, ◌<◌, ◌==◌, ◌^◌, ◌||◌, ◌≡◌, ◌≢◌, ◌≤◌}
use Rattle.std.specs.Int.{bit_not, trailing_zeros}
use Rattle.std.specs.List.{list_any, range_with_len}
use Rattle.std.proofs.lemmas.{Bool.and_from, Bool.and_parts, Bool.cases_eq, Bool.eq-eqb, Bool.false_from_ne_true, Bool.ne_eqb, List.get_or_past}
use Rattle.msg_world.specs.{Prelude.has_bit, declared.limits.TheConstants.MAX_SYSTEMS}
use Rattle.msg_world.proofs.Bits.{has_bit-and, has_bit-or, has_bit-set, has_bit-unset, has_bit-zero, next_is_below, next_is_set, none_before_next, none_from}
use Rattle.msg_order.specs.{Prelude.SystemSet, declared.system_set.TheConstants.WORDS, inner.SystemSet.has, inner.SystemSet.meets, inner.SystemSet.no_set}
use Rattle.msg_order.proofs.Elements.{Contains-list_any, Contains-range, list_any-Contains, range-Contains}

-- a test holds of a number below n just if it holds of one in the range of n numbers from 0
pub some_below : (test : ℕ → Bool) (n k : ℕ) → k < n → test k ≡ true → list_any test (range_with_len 0 n) ≡ true
some_below test n k lt t =
    list_any-Contains test (range_with_len 0 n) k (Contains-range 0 n k (omega arith) (omega arith)) t

pub below_some : (test : ℕ → Bool) (n : ℕ) → list_any test (range_with_len 0 n) ≡ true → (k : ℕ)
    × ((k < n) × (test k ≡ true))
below_some test n h =
    let f = Contains-list_any test (range_with_len 0 n) h in (f.0, grind (arith, f.1, range-Contains 0 n f.0))

pub none_below : (test : ℕ → Bool) (n : ℕ) → ((k : ℕ) → k < n → test k ≡ false)
    → list_any test (range_with_len 0 n) ≡ false
none_below test n none = grind (arith, false_from_ne_true, below_some)

-- one word was changed in one bit
words-set : (words : List ℕ) (new j k : ℕ) (f : Bool → Bool → Bool) → length words ≡ WORDS → k < MAX_SYSTEMS
    → ((b : Bool) → f false b ≡ b)
    → has_bit new (j % 64) ≡ f (j % 64 == k % 64) (has_bit (get_or words (k / 64) 0) (j % 64))
    → has_bit (get_or (slice_set words (k / 64) new) (j / 64) 0) (j % 64)
    ≡ f (j == k) (has_bit (get_or words (j / 64) 0) (j % 64))
words-set words new j k f l h same is =
    grind (arith, cases_eq, eq-eqb, get_or-set_other, get_or-set_same, ne_eqb)

-- `words[k / 64] |= 1 << (k % 64)`
pub words-insert : (words : List ℕ) (j k : ℕ) → length words ≡ WORDS → k < MAX_SYSTEMS →
    has_bit (get_or (slice_set words (k / 64) (bit_or (get_or words (k / 64) 0) (1 * 2 ^ (k % 64) % 2 ^ 64)))
    (j / 64) 0) (j % 64) ≡ ((j == k) || has_bit (get_or words (j / 64) 0) (j % 64))
words-insert words j k l h = words-set words _ j k (λ a b. a || b) l h (λ b. refl)
    (has_bit-set (get_or words (k / 64) 0) (k % 64) (j % 64) (omega arith))

-- `words[k / 64] &= !(1 << (k % 64))`
pub words-remove : (words : List ℕ) (j k : ℕ) → length words ≡ WORDS → k < MAX_SYSTEMS →
    has_bit (get_or (slice_set words (k / 64)
    (bit_and (get_or words (k / 64) 0) (bit_not w64 (1 * 2 ^ (k % 64) % 2 ^ 64)))) (j / 64) 0) (j % 64)
    ≡ (not (j == k) && has_bit (get_or words (j / 64) 0) (j % 64))
words-remove words j k l h = words-set words _ j k (λ a b. not a && b) l h (λ b. refl)
    (has_bit-unset (get_or words (k / 64) 0) (k % 64) (j % 64) (omega arith) (omega arith))

-- nothing is in a set of no words
pub has-no_set : (k : ℕ) → has no_set k ≡ false
unfolding has
has-no_set k = grind arith

pub meets-found : (s t : SystemSet) (k : ℕ) → k < MAX_SYSTEMS → has s k ≡ true → has t k ≡ true → meets s t ≡ true
unfolding meets
meets-found s t k h a b = some_below (λ i. has s i && has t i) MAX_SYSTEMS k h (and_from (has s k) (has t k) a b)

pub meets-true : (s t : SystemSet) → meets s t ≡ true → (k : ℕ) × ((k < MAX_SYSTEMS) × ((has s k ≡ true) × (has t k ≡ true)))
unfolding meets
meets-true s t h = let f = below_some (λ i. has s i && has t i) MAX_SYSTEMS h in (f.0, grind (arith, f.1, and_parts))

-- a set has no number from `MAX_SYSTEMS` on
pub has-above : (s : SystemSet) (k : ℕ) → length s.words ≡ WORDS → MAX_SYSTEMS ≤ k → has s k ≡ false
unfolding has
has-above s k l h = grind (arith, get_or_past, has_bit-zero)

-- words with no bit in both
pub has_bit-apart : (a b r : ℕ) → bit_and a b ≡ 0 → (has_bit a r && has_bit b r) ≡ false
has_bit-apart a b r e = grind (arith, has_bit-and a b r, has_bit-zero)

-- a bit in both, of the words that a number stands in
pub words-share : (xs ys : List ℕ) (i r k : ℕ) → r < 64 → 64 * i + r ≡ k
    → has_bit (bit_and (get_or xs i 0) (get_or ys i 0)) r ≡ true
    → (has_bit (get_or xs (k / 64) 0) (k % 64) && has_bit (get_or ys (k / 64) 0) (k % 64)) ≡ true
words-share xs ys i r k h e t = grind (arith, has_bit-and)

-- the place of a bit further on in the same word
further_on : (k t : ℕ) → k % 64 + t < 64 → ((k + t) / 64 ≡ k / 64) × ((k + t) % 64 ≡ k % 64 + t)
further_on k t h = (omega arith, omega arith)

-- bit q of all the words
abbrev pub bit_of : List ℕ → ℕ → Bool
bit_of words q = has_bit (get_or words (q / 64) 0) (q % 64)

module _ (words : List ℕ) (k : ℕ) (fits : get_or words (k / 64) 0 < 2 ^ 64) where
  -- the next bit that is set in the word of k, from k on
  pub next_in_word : get_or words (k / 64) 0 / 2 ^ (k % 64) ≢ 0 →
      let t = trailing_zeros w64 (get_or words (k / 64) 0 / 2 ^ (k % 64)) in
      (k % 64 + t < 64) × (bit_of words (k + t) ≡ true) × ((q : ℕ) → k ≤ q → q < k + t → bit_of words q ≡ false)
  next_in_word some =
      let below = next_is_below (get_or words (k / 64) 0) (k % 64) fits some in
      let at = further_on k _ below in (
        below,
        rw (at.0, at.1) (next_is_set (get_or words (k / 64) 0) (k % 64) fits some),
        λ q le lt.
            let word : q / 64 ≡ k / 64 = omega (arith, below) in
            rw word (none_before_next (get_or words (k / 64) 0) (k % 64) fits some (q % 64) (omega (arith, below))
            (omega (arith, below))),
      )

  -- if none is set, none is before the next word
  pub none_in_word : get_or words (k / 64) 0 / 2 ^ (k % 64) ≡ 0 → (q : ℕ) → k ≤ q → q < (k / 64 + 1) * 64
      → bit_of words q ≡ false
  none_in_word gone q le lt =
      let word : q / 64 ≡ k / 64 = omega arith in
      rw word (none_from (get_or words (k / 64) 0) (k % 64) gone (q % 64) (omega arith))

-- what the functions of sets are proved by
pub ruleset of_sets = (
  words-insert,
  words-remove,
  has_bit-or,
  meets-found,
  meets-true,
  has-above,
)
