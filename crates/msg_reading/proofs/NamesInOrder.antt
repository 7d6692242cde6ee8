-- Names in order, and the set of texts that keeps them.
use Rattle.std.proofs.lemmas.{List.map_push, Grind.common_steps, List.length-map}
use Rattle.std.proofs.Common.{◌≡◌, ◌+◌, List, [], ◌∷◌, ◌++◌, length, refl, sym, ap, ◌∙◌, None, Bool, false, not, map, nat_lt, string_bytes, String, arith, cond, position}
use Rattle.std.specs.{List.list_any, List.position_or_len, Str.bytes_eq, declared.alloc.Global.Global}
use Rattle.indexmap.specs.IndexSet.{insert_key}
use Rattle.msg_json.specs.Prelude.{Text}
use Rattle.msg_reading.specs.Prelude.{position_of}

module _ {A B : Type 0} (p : B → Bool) (f : A → B) where
  position_or_len-map : (xs : List A) → position_or_len p (map f xs) ≡ position_or_len (λ x. p (f x)) xs
  position_or_len-map [] = refl
  position_or_len-map (x ∷ xs) = ap (λ n. cond (not (p (f x))) (1 + n) 0) (position_or_len-map xs)

  -- the first of the images is the image of the first
  pub position-map : (xs : List A) → position p (map f xs) ≡ position (λ x. p (f x)) xs
  position-map xs = rw (position_or_len-map xs, length-map) refl

module _ {A : Type 0} (p : A → Bool) where
  found-any : (xs : List A) → nat_lt (position_or_len p xs) (length xs) ≡ list_any p xs
  found-any [] = refl
  found-any (x ∷ xs) = grind (arith, common_steps, found-any xs)

  -- if none is found, none passes
  pub none-any : (xs : List A) → position p xs ≡ None → list_any p xs ≡ false
  none-any xs none = grind (arith, found-any)

-- a text that isn't there yet goes last
pub insert-new : (keys : List (String Global)) (key : String Global) (name : Text) → string_bytes key ≡ name
    → position_of (map string_bytes keys) name ≡ None
    → map string_bytes (insert_key (λ a b. bytes_eq (string_bytes a) (string_bytes b)) keys key)
    ≡ map string_bytes keys ++ name ∷ []
insert-new keys key name is new =
    let none = sym (position-map (bytes_eq (string_bytes key)) string_bytes keys) ∙ rw is new in
    rw (none-any (λ k. bytes_eq (string_bytes key) (string_bytes k)) keys none, ← is, map_push) refl
