-- How histories grow and age.
use Rattle.std.proofs.Common.{◌≡◌, ℕ, ◌+◌, ◌≤◌, Bool, true, List, [], ◌∷◌, ◌++◌, length, map, filter, drop, refl, arith, inl, inr, not}
use Rattle.std.specs.List.{enumerate_from}
use Rattle.std.proofs.lemmas.{Bool.cases_Bool, Bool.Decides.nat_tests, List.length-map}
use Rattle.msg_buffer.specs.Prelude.{Entry, HasRisingStamps, History, Instance, instance_of, is_current, is_present, numbered, stamped, update}

module _ {M : Type 0} where
  -- the entries that pass a test, of those numbered from n on
  abbrev pub kept : (ℕ × Entry M → Bool) → ℕ → List (Entry M) → List (Instance M)
  kept test n es = map instance_of (filter test (enumerate_from n es))

  -- how many don't pass it
  abbrev pub dropped : (ℕ × Entry M → Bool) → ℕ → List (Entry M) → ℕ
  dropped test n es = length (filter (λ x. not (test x)) (enumerate_from n es))

  pub dropped_and_kept : (test : ℕ × Entry M → Bool) (n : ℕ) (es : List (Entry M))
      → dropped test n es + length (kept test n es) ≡ length es
  dropped_and_kept test n [] = refl
  dropped_and_kept test n (e ∷ es) = grind (arith, dropped_and_kept test (n + 1) es)

  pub kept-append : (test : ℕ × Entry M → Bool) (n : ℕ) (es fs : List (Entry M)) → kept test n (es ++ fs)
      ≡ kept test n es ++ kept test (n + length es) fs
  kept-append test n [] fs = grind arith
  kept-append test n (e ∷ es) fs = grind (arith, kept-append test (n + 1) es fs)

  -- ---- stamps

  pub stamps_below : (low high : ℕ) (es : List (Entry M)) → HasRisingStamps low es high → low ≤ high
  stamps_below low high [] rise = rise
  stamps_below low high (e ∷ es) rise = omega (arith, stamps_below e.stamp high es rise.1)

  pub stamps_later : (low high later : ℕ) (es : List (Entry M)) → high ≤ later → HasRisingStamps low es high
      → HasRisingStamps low es later
  stamps_later low high later [] le rise = omega arith
  stamps_later low high later (e ∷ es) le rise = (rise.0, stamps_later e.stamp high later es le rise.1)

  stamps-stamped : (low u : ℕ) (ms : List M) → low ≤ u → HasRisingStamps low (stamped u ms) u
  stamps-stamped low u [] le = le
  stamps-stamped low u (m ∷ ms) le = (le, stamps-stamped u u ms (omega arith))

  pub stamps-append : (low u : ℕ) (es : List (Entry M)) (ms : List M) → HasRisingStamps low es u
      → HasRisingStamps low (es ++ stamped u ms) u
  stamps-append low u [] ms rise = stamps-stamped low u ms rise
  stamps-append low u (e ∷ es) ms rise = (rise.0, stamps-append e.stamp u es ms rise.1)

  -- ---- an update

  -- what was current is present after one more update, and nothing is current
  pub aged : (h : History M) (n low : ℕ) (es : List (Entry M)) → HasRisingStamps low es h.updates
      → (kept (is_present (update h)) n es ≡ kept (is_current h) n es) × (kept (is_current (update h)) n es ≡ [])
  aged h n low [] rise = (refl, refl)
  aged h n low (e ∷ es) rise =
      let le = stamps_below e.stamp h.updates es rise.1 in
      let same : is_present (update h) (n, e) ≡ is_current h (n, e) = grind (arith, nat_tests) in
      grind (arith, nat_tests, same, aged h (n + 1) e.stamp es rise.1)

  -- ---- a write

  -- of messages that were all written at once
  pub present-stamped : (h : History M) (n u : ℕ) (ms : List M) → h.floor ≤ n → h.updates ≤ u + 1
      → kept (is_present h) n (stamped u ms) ≡ numbered n ms
  present-stamped h n u [] above young = refl
  present-stamped h n u (m ∷ ms) above young =
      grind (arith, nat_tests, present-stamped h (n + 1) u ms (omega arith) young)

  pub current-stamped : (h : History M) (n u : ℕ) (ms : List M) → h.floor ≤ n → u ≡ h.updates
      → kept (is_current h) n (stamped u ms) ≡ numbered n ms
  current-stamped h n u [] above now = refl
  current-stamped h n u (m ∷ ms) above now = grind (arith, nat_tests, current-stamped h (n + 1) u ms (omega arith) now)

  -- ---- a clear

  pub none_below : (h : History M) (n : ℕ) (es : List (Entry M)) → n + length es ≤ h.floor
      → (kept (is_present h) n es ≡ []) × (kept (is_current h) n es ≡ [])
  none_below h n [] le = (refl, refl)
  none_below h n (e ∷ es) le = grind (arith, nat_tests, none_below h (n + 1) es (omega arith))

  -- ---- what isn't present is a prefix

  -- from a present entry on all are present
  pub all_present : (h : History M) (n : ℕ) (e : Entry M) (es : List (Entry M)) → is_present h (n, e) ≡ true
      → HasRisingStamps e.stamp es h.updates
      → (kept (is_present h) n (e ∷ es) ≡ map instance_of (enumerate_from n (e ∷ es)))
      × (dropped (is_present h) n (e ∷ es) ≡ 0)
  all_present h n e [] is rise = (rw is refl, rw is refl)
  all_present h n e (d ∷ es) is rise =
      let next : is_present h (n + 1, d) ≡ true = grind (arith, nat_tests) in
      grind (arith, all_present h (n + 1) d es next rise.1)

  pub present_is_suffix : (h : History M) (n low : ℕ) (es : List (Entry M)) → HasRisingStamps low es h.updates
      → drop (dropped (is_present h) n es) (map instance_of (enumerate_from n es)) ≡ kept (is_present h) n es
  present_is_suffix h n low [] rise = refl
  present_is_suffix h n low (e ∷ es) rise = elim (cases_Bool (is_present h (n, e))) [
    | inl is ↦ let all = all_present h n e es is rise.1 in rw (all.1, all.0) refl
    | inr isnt ↦ rw isnt (present_is_suffix h (n + 1) e.stamp es rise.1)
  ]

-- what was written at once, behind what was there
pub ruleset of_stamped = (kept-append, length-map, stamps-append, present-stamped, current-stamped)
