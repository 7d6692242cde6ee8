-- What is kept of a world is told as the world that it stands for.
use Rattle.std.proofs.Common.{◌≡◌, ℕ, ◌+◌, ◌<◌, ℤ, false, true, List, [], ◌∷◌, length, nat_lt, refl, arith, ap, flat_map, Option, Some, None, IsSome, IfSome, get_or}
use Rattle.std.specs.List.{enumerate_from}
use Rattle.std.proofs.Math.ListN.{get_or-eq_default}
use Rattle.std.proofs.lemmas.Bool.Decides.{nat_tests}
use Rattle.msg_buffer.specs.Prelude.{History, Kept, StandsFor, count, missed, unread}
use Rattle.msg_buffer.proofs.Unread.{length-unread}
use Rattle.msg_frames.specs.{Prelude.State, declared.account.Account.Account}
use Rattle.msg_reading.specs.declared.scenario.Scenario.{Scenario}
use Rattle.msg_json.specs.Prelude.{Text}
use Rattle.msg_world.specs.{Prelude.IsWhole, Prelude.Parts, Prelude.PartsStand, Prelude.WorldState, Prelude.i64_values, Prelude.slot, declared.part.Part.TheVariants.OfResource, declared.part.Part.TheVariants.OfType, declared.record.Record.Record}
use Rattle.msg_log_json.specs.Prelude.{account_json, list_item, listed, numbered, past_json, resource_json, rest_json, type_json}
use Rattle.msg_log_json.specs.inner.KeptJson.{account_kept, accounts_kept, past_kept, resource_kept, resources_kept, type_kept, types_kept}

-- ---- lists whose elements are told alike

module _ {X : Type 0} (f g : ℕ × X → Text) where
  alike_from : (xs : List X) (n : ℕ) → ((k : ℕ) (x : X) → k < n + length xs → f (k, x) ≡ g (k, x))
      → flat_map (list_item f) (enumerate_from n xs) ≡ flat_map (list_item g) (enumerate_from n xs)
  alike_from [] n each = refl
  alike_from (x ∷ xs) n each =
      grind (arith, each n x (omega arith), alike_from xs (n + 1) (λ k y lt. each k y (omega (arith, lt))))

  alike : (xs : List X) → ((k : ℕ) (x : X) → k < length xs → f (k, x) ≡ g (k, x)) → numbered f xs ≡ numbered g xs
  unfolding numbered
  alike xs each = alike_from xs 0 (λ k x lt. each k x (omega (arith, lt)))

-- ---- a type, a resource and a place

type_told : (name : Text) (o : Option (Kept (Record ℤ))) (h : History (Record ℤ)) → IsSome o
    → IfSome o (λ k. StandsFor k h) → type_kept name o ≡ type_json name h
type_told name None h some stands = absurd cc
type_told name (Some k) h some stands = rw (stands.count, stands.oldest) refl

resource_told : (name : Text) (o : Option ℤ) (value : ℤ) → IsSome o → IfSome o (λ v. v ≡ value)
    → resource_kept name o ≡ resource_json name value
resource_told name None value some stands = absurd cc
resource_told name (Some v) value some stands = rw stands refl

past_told : (o : Option (Kept (Record ℤ))) (h : History (Record ℤ)) (place : ℕ) → IsSome o
    → IfSome o (λ k. StandsFor k h) → past_kept o place
    ≡ past_json (record { lost = missed h place; unread = length (unread h place) }) (count h)
unfolding past_kept
past_told None h place some stands = absurd cc
past_told (Some k) h place some stands = rw (stands.count, stands.oldest, length-unread h place) refl

module _ (s : Scenario) (world : Parts ℤ) (w : WorldState i64_values) (whole : IsWhole world)
    (stands : PartsStand world w) where
  pub types_told : length world.types ≡ length s.types → types_kept s world
      ≡ numbered (λ x. type_json x.1.0 (w.histories x.0)) s.types
  unfolding types_kept
  types_told many =
      alike (λ x. type_kept x.1.0 (slot (OfType x.0) world)) (λ x. type_json x.1.0 (w.histories x.0)) s.types
      (λ k x lt. type_told x.0 (slot (OfType k) world) (w.histories k) (whole (OfType k) (omega (arith, lt, many)))
      (stands (OfType k)))

  pub resources_told : length world.resources ≡ length s.resources → resources_kept s world
      ≡ numbered (λ x. resource_json x.1.0 (w.resources x.0)) s.resources
  unfolding resources_kept
  resources_told many =
      alike (λ x. resource_kept x.1.0 (slot (OfResource x.0) world)) (λ x. resource_json x.1.0 (w.resources x.0))
      s.resources
      (λ k x lt. resource_told x.0 (slot (OfResource k) world) (w.resources k)
      (whole (OfResource k) (omega (arith, lt, many))) (stands (OfResource k)))

-- ---- readers

module _ (s : Scenario) (world : Parts ℤ) (now : State i64_values) (whole : IsWhole world)
    (stands : PartsStand world now.world) where
  -- a type that isn't there has no text
  none_told : (t place : ℕ) → ¬ (t < length world.types) → past_kept (slot (OfType t) world) place ≡ []
  unfolding past_kept
  none_told t place out = rw (get_or-eq_default world.types None {n = t} (omega (arith, out))) refl

  rest_told : (a : Account) → past_kept (slot (OfType a.of_type) world) a.place ≡ rest_json (length world.types) now a
  rest_told a = elim (nat_lt a.of_type (length world.types)) as (λ b. nat_lt a.of_type (length world.types) ≡ b
      → past_kept (slot (OfType a.of_type) world) a.place ≡ rest_json (length world.types) now a) [
        | true ↦ λ is. rw is
            (past_told (slot (OfType a.of_type) world) (now.world.histories a.of_type) a.place
            (whole (OfType a.of_type) (grind (arith, nat_tests, is))) (stands (OfType a.of_type)))
        | false ↦ λ is. rw is (none_told a.of_type a.place (grind (arith, nat_tests, is)))
      ] refl

  pub accounts_told : (accounts : List Account) → length world.types ≡ length s.types
      → accounts_kept s world accounts ≡ listed (account_json s now) accounts
  accounts_told accounts many =
      alike (λ x. account_kept s world x.1) (λ x. account_json s now x.1) accounts
      (λ k a lt. grind (arith, rest_told a, many))
