-- The accesses of the systems of a scenario, and what their order comes of.
use Rattle.std.proofs.Common.{◌≡◌, ℕ, zero, suc, ◌+◌, ◌<◌, false, List, [], ◌∷◌, ◌++◌, length, map, get_or, take, refl, subst, sym, ap, ◌∙◌, IsTrue, All, slice_index_or, arith, ℤ}
use Rattle.std.specs.List.{enumerate_from, range_with_len}
use Rattle.std.proofs.lemmas.{Bool.false≢true, List.take_more, List.length-map, List.map-id, List.Elements.All-tail, List.FromFn.fill_by_all, List.FromFn.length-enumerate_from, Nat.Bits.bit_at-zero, Simd.map-map, Slice.Zip.AllZip-long}
use Rattle.msg_world.specs.{declared.part.Part.Part, declared.part.Part.TheVariants.OfResource, declared.part.Part.TheVariants.OfType, declared.part.Part.TheVariants.Registry, Prelude.HasPart, Prelude.no_access, Prelude.i64_values}
use Rattle.msg_world.specs.declared.access.Access.{Access}
use Rattle.msg_system.specs.Prelude.{IsAccessOf, Meaning, Needs, needs_any, new_asked, new_system, with_conditions}
use Rattle.msg_order.specs.Prelude.{access_of}
use Rattle.msg_frames.specs.Prelude.{AreAccessesOf, SameSystems, State, UsesParts, before_joining, member_needs, default_system, default_place, waiting_member}
use Rattle.msg_frames.specs.Prelude.{SameMember}
use Rattle.msg_frames.specs.Frames.{Member}
use Rattle.msg_frames.specs.declared.place.Place.{Place}
use Rattle.msg_frames.proofs.SystemsStay.{joining_on_keeps}
use Rattle.msg_reading.specs.Prelude.{IsRunnable, first_world, meanings_of, places_of, state_of}
use Rattle.msg_reading.specs.{declared.scenario.Scenario.Scenario, declared.scenario.SystemSpec.SystemSpec}
use Rattle.msg_world.specs.declared.limits.TheConstants.{MAX_RESOURCES, MAX_TYPES}
use Rattle.msg_advice.specs.inner.Tables.{AreAccesses, spec_needs}

-- ---- accesses

accesses_pushed : (xs : List SystemSpec) (bs : List Access) (x : SystemSpec) (a : Access) → AreAccesses xs bs
    → IsAccessOf (spec_needs x) a → AreAccesses (xs ++ x ∷ []) (bs ++ a ∷ [])
accesses_pushed [] [] x a are is = (is, tt)
accesses_pushed [] (b ∷ bs) x a are is = absurd are
accesses_pushed (y ∷ xs) [] x a are is = absurd are
accesses_pushed (y ∷ xs) (b ∷ bs) x a are is = (are.0, accesses_pushed xs bs x a are.1 is)

pub accesses_more : (xs : List SystemSpec) (bs : List Access) (i : ℕ) (d : SystemSpec) (a : Access) → i < length xs
    → AreAccesses (take i xs) bs → IsAccessOf (spec_needs (get_or xs i d)) a
    → AreAccesses (take (i + 1) xs) (bs ++ a ∷ [])
accesses_more xs bs i d a lt are is =
    rw (take_more xs i d lt) (accesses_pushed (take i xs) bs (get_or xs i d) a are is)

-- what system i of these needs, the first of which has number n
abbrev needs_from : ℕ → List SystemSpec → ℕ → Needs
needs_from n xs i =
    with_conditions (slice_index_or (map (λ x. new_system x.1.program x.0) (enumerate_from n xs)) i default_system).needs
    (slice_index_or (map (λ x. x.place) xs) i default_place).conditions

nobody_needs : (n i : ℕ) (p : Part) → ((needs_from n [] i).reads p ≡ false) × ((needs_from n [] i).writes p ≡ false)
nobody_needs n i (OfType t) = grind arith
nobody_needs n i (OfResource r) = grind arith
nobody_needs n i Registry = grind arith

nobody_access : (n i : ℕ) → IsAccessOf (needs_from n [] i) no_access
nobody_access n i = record {
  reads = λ p. grind (arith, bit_at-zero, nobody_needs n i p);
  writes = λ p. grind (arith, bit_at-zero, nobody_needs n i p);
}

access_from : (n : ℕ) (xs : List SystemSpec) (bs : List Access) → AreAccesses xs bs → (i : ℕ)
    → IsAccessOf (needs_from n xs i) (access_of bs i)
access_from n [] [] are i = nobody_access n i
access_from n [] (b ∷ bs) are i = absurd are
access_from n (x ∷ xs) [] are i = absurd are
access_from n (x ∷ xs) (b ∷ bs) are zero = are.0
access_from n (x ∷ xs) (b ∷ bs) are (suc i) = access_from (n + 1) xs bs are.1 i

-- ---- parts that there may be

within_from : (P : Part → Type 0) (n : ℕ) (xs : List SystemSpec)
    → All (λ x. (p : Part) → IsTrue (needs_any (spec_needs x) p) → P p) xs → (i : ℕ) (p : Part)
    → IsTrue (needs_any (needs_from n xs i) p) → P p
within_from P n [] each i p needed = absurd (grind (arith, false≢true, nobody_needs n i p))
within_from P n (x ∷ xs) each zero p needed = each 0 x (omega arith) p needed
within_from P n (x ∷ xs) each (suc i) p needed =
    within_from P (n + 1) xs
    (All-tail (λ (y : SystemSpec). (q : Part) → IsTrue (needs_any (spec_needs y) q) → P q) x xs each) i p needed

-- ---- when they join

joins_from : (xs : List SystemSpec) (i : ℕ) → i < length xs
    → get_or (map (λ x. x.place.join) xs) i 0 ≡ (slice_index_or (map (λ x. x.place) xs) i default_place).join
joins_from [] i lt = absurd (omega arith)
joins_from (x ∷ xs) zero lt = refl
joins_from (x ∷ xs) (suc i) lt = joins_from xs i (omega (arith, lt))

-- ---- what they are arranged as

needs_stay : (m n : Member ℤ) → SameMember m n → member_needs n ≡ member_needs m
needs_stay m n same = grind arith

waiting_needs : (m : Meaning ℤ) (place : Place ℤ) → member_needs (waiting_member m place)
    ≡ with_conditions m.needs place.conditions
waiting_needs m place =
    ap (with_conditions m.needs)
    (map-map (λ a. a.condition) new_asked place.conditions ∙ map-id place.conditions)

module _ (s : Scenario) where
  -- before any system joined
  abbrev early : State i64_values
  early = before_joining (meanings_of s) (places_of s) s.rules (length s.types) (length s.resources) (first_world s)

  joined : SameSystems early (state_of s)
  joined = joining_on_keeps 1 early

  needs_are : (i : ℕ) → member_needs ((state_of s).members i) ≡ needs_from 0 s.systems i
  needs_are i =
      needs_stay (early.members i) ((state_of s).members i) (joined.members i)
      ∙ waiting_needs (slice_index_or (meanings_of s) i default_system) (slice_index_or (places_of s) i default_place)

  as_many : length (meanings_of s) ≡ length s.systems
  as_many = length-map (enumerate_from 0 s.systems) (λ x. new_system x.1.program x.0) ∙ length-enumerate_from 0 s.systems

  pub few_parts : IsRunnable s → UsesParts (state_of s)
  few_parts runnable i lt p needed =
      within_from (HasPart MAX_TYPES MAX_RESOURCES) 0 s.systems
      (λ j x l q n. elim q as (λ r. HasPart (length s.types) (length s.resources) r → HasPart MAX_TYPES MAX_RESOURCES r) [
        | OfType t ↦ λ below. omega (arith, below, runnable.few_types)
        | OfResource r ↦ λ below. omega (arith, below, runnable.few_resources)
        | Registry ↦ λ below. tt
      ] ((runnable.systems j x l).fits q n)) i p (subst (λ n. IsTrue (needs_any n p)) (needs_are i) needed)

  pub joins_are : map (λ x. x.place.join) s.systems
      ≡ map (λ i. ((state_of s).members i).join) (range_with_len 0 (state_of s).systems)
  joins_are =
      fill_by_all (λ i. ((state_of s).members i).join) (map (λ x. x.place.join) s.systems) (length (meanings_of s)) 0
      (length-map s.systems (λ x. x.place.join) ∙ sym as_many)
      (λ i lt. joins_from s.systems i (omega (arith, as_many, lt)) ∙ grind (arith, joined.members i))

  pub accesses_are : (bs : List Access) → AreAccesses s.systems bs → AreAccessesOf (state_of s) bs
  accesses_are bs are = record {
    each = AllZip-long _ s.systems bs are ∙ sym as_many;
    of_needs = λ i lt. rw (needs_are i) (access_from 0 s.systems bs are i);
  }
