-- Which entries are present: those from the oldest on.
use Rattle.std.proofs.Common.{◌≡◌, ℕ, zero, suc, ◌+◌, ◌<◌, ◌≤◌, List, [], ◌∷◌, map, drop, refl, sym, ◌∙◌, arith, inl, inr, Option, Some, slice_get, option_map, nat_le}
use Rattle.std.specs.List.{enumerate_from}
use Rattle.std.proofs.lemmas.{Bool.cases_Bool, Bool.Decides.nat_tests, Option.slice_get_cases, Option.same_Some}
use Rattle.msg_buffer.specs.Prelude.{Entry, HasRisingStamps, History, IsPresent, IsSound, Kept, StandsFor, count, get, get_from, instance_of, instances, is_present, kept_instances, message_of, oldest}
use Rattle.msg_buffer.proofs.{Histories.all_present, Histories.dropped, Histories.present_is_suffix, Numbers.slice_get-drop}

module _ {M : Type 0} where
  -- entry k of them is present if no more than k are dropped
  present_at : (h : History M) (n low : ℕ) (es : List (Entry M)) (k : ℕ) (e : Entry M)
      → HasRisingStamps low es h.updates
      → slice_get es k ≡ Some e → is_present h (n + k, e) ≡ nat_le (dropped (is_present h) n es) k
  present_at h n low [] k e rise at = absurd (cc)
  present_at h n low (d ∷ es) zero e rise at = grind (arith, cases_Bool, all_present h n d es, rise.1, same_Some)
  present_at h n low (d ∷ es) (suc k) e rise at =
      let same : n + suc k ≡ n + 1 + k = omega arith in
      let rest = present_at h (n + 1) d.stamp es k e rise.1 at in
      rw same (grind (arith, cases_Bool (is_present h (n, d)), all_present h n d es, rise.1, rest))

  pub present_from_oldest : (h : History M) (k : ℕ) (e : Entry M) → IsSound h → slice_get h.entries k ≡ Some e
      → is_present h (k, e) ≡ nat_le (oldest h) k
  present_from_oldest h k e sound at = grind (arith, present_at h 0 0 h.entries k e sound.stamps at)

  pub not_present : (h : History M) (k : ℕ) → IsSound h → k < oldest h → ¬ IsPresent h k
  not_present h k sound below p = grind (arith, nat_tests, present_from_oldest h k p.0 sound p.1, p.2)

  pub is_there : (h : History M) (k : ℕ) → IsSound h → oldest h ≤ k → k < count h → IsPresent h k
  is_there h k sound above below = elim (slice_get_cases h.entries k).1 [
    | inl found ↦ (found.0, found.2, grind (arith, nat_tests, present_from_oldest h k found.0 sound found.2))
    | inr past ↦ absurd (omega (arith, past.0))
  ]

  -- ---- the message of a number

  slice_get-instances : (n : ℕ) (es : List (Entry M)) (k : ℕ) → slice_get (map instance_of (enumerate_from n es)) k
      ≡ option_map (λ e. instance_of (n + k, e)) (slice_get es k)
  slice_get-instances n [] k = refl
  slice_get-instances n (e ∷ es) zero = grind arith
  slice_get-instances n (e ∷ es) (suc k) = grind (arith, slice_get-instances (n + 1) es k)

  -- the kept messages are the last ones
  pub kept_stands : (k : Kept M) (h : History M) → StandsFor k h → kept_instances k ≡ drop (oldest h) (instances h)
  kept_stands k h s = s.present ∙ sym (present_is_suffix h 0 0 h.entries s.sound.stamps)

  found_in_history : (h : History M) (n : ℕ) (e : Option (Entry M)) → slice_get h.entries n ≡ e → IsSound h
      → option_map message_of (get_from (oldest h) (drop (oldest h) (instances h)) n) ≡ get h n
  found_in_history h n e is sound =
      grind (arith, cases_Bool, nat_tests, present_from_oldest, slice_get-drop, slice_get-instances)

  pub get_stands : (k : Kept M) (h : History M) (n : ℕ) → StandsFor k h
      → option_map message_of (get_from k.oldest (kept_instances k) n) ≡ get h n
  get_stands k h n s = rw (s.oldest, kept_stands k h s) (found_in_history h n (slice_get h.entries n) refl s.sound)
