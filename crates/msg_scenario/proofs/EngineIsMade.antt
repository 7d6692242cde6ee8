-- The systems of an engine that is made of a scenario.
use Rattle.std.proofs.Common.{◌≡◌, ℕ, suc, ◌+◌, List, [], ◌∷◌, length, map, zero-add, Some, refl, sym, ap, ◌∙◌, inl, inr, arith, option_map, slice_get, ℤ}
use Rattle.std.specs.List.{All, enumerate_from}
use Rattle.std.proofs.lemmas.{Option.same_Some, Option.slice_get_cases, Option.slice_get_within, Option.slice_get-map}
use Rattle.msg_world.specs.Prelude.{Parts}
use Rattle.msg_system.specs.Prelude.{Meaning, new_system}
use Rattle.msg_frames.specs.declared.place.Place.{Place}
use Rattle.msg_exec.specs.Prelude.{EachIs, IsLowestClash, MayBeAdded}
use Rattle.msg_reading.specs.{declared.scenario.Scenario.Scenario, declared.scenario.SystemSpec.SystemSpec}
use Rattle.msg_reading.specs.Prelude.{IsRunnable, IsRunnableSystem, meanings_of, places_of}
use Rattle.msg_scenario.specs.Prelude.{IsSystemAt}

-- lists of one length have something at the same places, and what holds of all of one list holds of that
found_there : {X Y : Type 0} (P : Y → Type 0) (xs : List X) (ys : List Y) (i : ℕ) (x : X) → length xs ≡ length ys
    → All P ys → slice_get xs i ≡ Some x → (y : Y) × (slice_get ys i ≡ Some y) × P y
found_there P xs ys i x same all there =
    let lt = slice_get_within xs i x there in
    elim (slice_get_cases ys i).1 [
      | inl found ↦ (found.0, found.2, rw found.3 at (all i found.0 found.1))
      | inr past ↦ absurd (let late = past.0 in omega (arith, lt, same, late))
    ]

module _ {S : Type 0} (m : S → Meaning ℤ) where
  -- the system of the spec at a place is the one at that place
  pub is_system_at : (specs : List SystemSpec) (n : ℕ) (x : S) (spec : SystemSpec) → slice_get specs n ≡ Some spec
      → m x ≡ new_system spec.program n → IsSystemAt m specs n x
  is_system_at specs n x spec there is other found =
      rw (same_Some _ _ (sym there ∙ found)) at is

  -- systems that are each the one at its place are all of them
  all_from : (specs : List SystemSpec) (xs : List S) (n : ℕ) → length xs ≡ length specs
      → ((i j : ℕ) (x : S) (spec : SystemSpec) → n + i ≡ j → slice_get xs i ≡ Some x → slice_get specs i ≡ Some spec
      → m x ≡ new_system spec.program j)
      → map m xs ≡ map (λ x. new_system x.1.program x.0) (enumerate_from n specs)
  all_from [] [] n same each = refl
  all_from [] (x ∷ xs) n same each = cc
  all_from (spec ∷ specs) [] n same each = cc
  all_from (spec ∷ specs) (x ∷ xs) n same each =
      let rest = all_from specs xs (n + 1) (omega (arith, same))
      (λ i j y t is here there. each (suc i) j y t (omega (arith, is)) here there) in
      grind (arith, rest, each 0 n x spec)

  module _ (s : Scenario) (xs : List S) (same : length xs ≡ length s.systems)
      (each : EachIs (IsSystemAt m s.systems) xs) where
    pub all_made : map m xs ≡ meanings_of s
    all_made =
        all_from s.systems xs 0 same (λ i j x spec is here there. rw (← is, zero-add) (each i x here spec there))

    -- each may be added
    pub may_add : (w : Parts ℤ) → IsRunnable s → length w.types ≡ length s.types
        → length w.resources ≡ length s.resources → EachIs (MayBeAdded m w (places_of s)) xs
    may_add w runnable types resources i x here =
        let found = found_there (IsRunnableSystem s) xs s.systems i x same runnable.systems here in
        let spec = found.0 in
        let is = each i x here spec found.1 in
        let placed : (place : Place ℤ) → slice_get (places_of s) i ≡ Some place → spec.place ≡ place =
        λ place sp. same_Some _ _ (sym (slice_get-map (λ (y : SystemSpec). y.place) s.systems i
        ∙ ap (option_map (λ y. y.place)) found.1) ∙ sp) in
        record {
          new = rw is (record { writer = refl; places = λ t. refl });
          fits = λ place sp p needed. rw (types, resources) (found.2.fits p (rw (is, ← placed place sp) at needed));
          joins = λ place sp. rw (placed place sp) at found.2.joins;
        }

    -- none reads and writes one part
    pub no_clash : (i : ℕ) → IsRunnable s → IsLowestClash m xs i → ⊥
    no_clash i runnable lowest =
        let x = lowest.system in
        let found = found_there (IsRunnableSystem s) xs s.systems i x same runnable.systems lowest.is in
        found.2.no_clash (lowest.clash.0, rw (each i x lowest.is found.0 found.1) at lowest.clash.1)
