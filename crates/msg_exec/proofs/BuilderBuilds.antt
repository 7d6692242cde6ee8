-- Systems that were given their numbers.
use Rattle.std.proofs.Common.{◌≡◌, ℕ, zero, suc, ◌+◌, ◌<◌, ◌++◌, List, [], ◌∷◌, length, map, take, drop, set, get_or, Some, refl, ap, arith, slice_get}
use Rattle.std.proofs.lemmas.{Option.none-some, Option.same_Some, Option.slice_get_within}
use Rattle.msg_order.specs.declared.rule.Rule.{Rule}
use Rattle.msg_system.specs.Prelude.{Meaning}
use Rattle.msg_exec.specs.Prelude.{BuildRefusal, Clash, Cycle, NoMemory, NoneIsClash, RefusesFor, numbered_from}
use Rattle.msg_exec.proofs.ItemsOfLists.{item_at}

-- ---- systems with their numbers

module _ {V : Type 0} where
  -- it writes as n, and has read nothing
  abbrev as_number : ℕ → Meaning V → Meaning V
  as_number n m = record m { writer = n; places = λ t. 0 }

  -- those below i have their numbers
  abbrev pub numbered_below : ℕ → ℕ → List (Meaning V) → List (Meaning V)
  numbered_below n i ms = numbered_from n (take i ms) ++ drop i ms

  pub numbered_next : (n i : ℕ) (ms : List (Meaning V)) (d : Meaning V) → i < length ms
      → set (numbered_below n i ms) i (as_number (n + i) (get_or (numbered_below n i ms) i d)) ≡ numbered_below n (suc i) ms
  numbered_next n i [] d lt = absurd (omega (arith, lt))
  numbered_next n zero (m ∷ ms) d lt = ap (λ k. as_number k m ∷ ms) (omega arith)
  numbered_next n (suc i) (m ∷ ms) d lt =
      let number : n + suc i ≡ n + 1 + i = omega arith in
      ap (λ xs. as_number n m ∷ xs) (rw number (numbered_next (n + 1) i ms d (omega (arith, lt))))

module _ {S V : Type 0} (meaning : S → Meaning V) where
  -- system i of the numbered list is system i of the old list, with its number
  was : (n : ℕ) (new old : List S) → map meaning new ≡ numbered_from n (map meaning old) → (i : ℕ) (x : S)
      → slice_get new i ≡ Some x → (y : S) × ((slice_get old i ≡ Some y) × (meaning x ≡ as_number (n + i) (meaning y)))
  was n [] old same i x there = absurd (none-some x there)
  was n (z ∷ new) [] same i x there = absurd (cc)
  was n (z ∷ new) (y ∷ old) same zero x there =
      let number : n + 0 ≡ n = omega arith in
      (y, (refl, rw number (cc)))
  was n (z ∷ new) (y ∷ old) same (suc i) x there =
      let number : n + suc i ≡ n + 1 + i = omega arith in
      rw number (was (n + 1) new old (cc) i x there)

  module _ (old new : List S) (as_many : length new ≡ length old)
      (numbered : map meaning new ≡ numbered_from 0 (map meaning old)) where
    pub before : (i : ℕ) (x : S) → slice_get new i ≡ Some x → (y : S)
        × ((slice_get old i ≡ Some y) × (meaning x ≡ as_number i (meaning y)))
    before i x there = let at : 0 + i ≡ i = omega arith in rw at at (was 0 new old numbered i x there)

    -- system i of the old list has a system i in the numbered list, with the same needs
    after : (i : ℕ) (y : S) → slice_get old i ≡ Some y → (x : S)
        × ((slice_get new i ≡ Some x) × ((meaning x).needs ≡ (meaning y).needs))
    after i y there =
        let x = item_at new i (omega (arith, slice_get_within old i y there, as_many)) in
        let y' = before i x.0 x.1 in
        (x.0, (x.1, grind (arith, same_Some, y')))

    pub no_clash_before : NoneIsClash meaning new → NoneIsClash meaning old
    no_clash_before none i y there clash = let x = after i y there in none i x.0 x.1.0 (rw (← x.1.1) at clash)

    pub refusal_before : (rules : List Rule) (refusal : BuildRefusal) → RefusesFor meaning new rules refusal
        → RefusesFor meaning old rules refusal
    refusal_before rules (Clash s) lowest =
        let y = before s lowest.system lowest.is in record {
          system = y.0;
          is = y.1.0;
          clash = rw y.1.1 at lowest.clash;
          lowest = λ r z lt there clash.
              let x = after r z there in
              lowest.lowest r x.0 lt x.1.0 (rw (← x.1.1) at clash);
        }
    refusal_before rules (Cycle s) refused = (no_clash_before refused.0, refused.1)
    refusal_before rules NoMemory refused = (no_clash_before refused.0, refused.1)
