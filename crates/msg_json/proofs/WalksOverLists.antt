-- One step of a walk over a list of JSON values.
use Rattle.std.proofs.Common.{◌≡◌, ℕ, ◌-◌, ◌≤◌, List, [], ◌∷◌, ◌++◌, inl, inr, append_assoc, Err, take, drop, get_or, length, refl, sym, ap, arith, Bool, map, string_bytes, String, ℤ, position, Ok}
use Rattle.std.proofs.lemmas.List.{length-map, take_all, Folds.list_all-map}
use Rattle.std.specs.declared.alloc.Global.{Global}
use Rattle.serde_json.specs.{Data.Data, View.view, View.items_of, View.members_view, declared.value.Value.Value}
use Rattle.msg_json.specs.Prelude.{Reading, Reads, at_step, keys_of, list_of, values_from, ◌>>=◌}
use Rattle.msg_json.specs.declared.location.PathStep.{PathStep}

-- ---- lists in serde_json's form, and in ours

-- serde_json's items are the list that they were made of
pub list_of-items_of : (ds : List Data) → list_of (items_of ds) ≡ ds
list_of-items_of [] = refl
list_of-items_of (d ∷ ds) = ap (λ l. d ∷ l) (list_of-items_of ds)

-- the first key that isn't known
pub position-keys : (p : List ℕ → Bool) (ms : List (String Global × Value))
    → position p (keys_of (members_view ms)) ≡ position (λ m. p (string_bytes m.0)) ms
position-keys p [] = refl
position-keys p (m ∷ ms) = grind (arith, position-keys p ms)

-- a list is its first item and the range of the others
pub first_and_rest : (xs : List Value) (v : Value) → 1 ≤ length xs → v ≡ get_or xs 0 v
    → map view xs ≡ view v ∷ map view (take (length xs - 1) (drop 1 xs))
first_and_rest [] v least is = absurd (omega (arith, least))
first_and_rest (x ∷ xs) v least is = rw (take_all (length (x ∷ xs) - 1) xs (omega arith), is) refl

-- steps that the check takes by itself
pub ruleset list_steps = (list_of-items_of, position-keys, list_all-map, length-map, first_and_rest)

-- ---- what was read, before what is left

-- what is read of a list, behind what was read before
abbrev pub behind : {A : Type 0} → List A → Reading (List A) → Reading (List A)
behind read rest = rest >>= λ xs. Ok (read ++ xs)

-- the values so far were read, and those from i on are left
pub record ValuesLeft (items : List Value) (i : ℕ) (values : List ℤ) : Type 0 where
  pub so_far : values_from 0 (map view items)
      ≡ behind values (values_from i (map view (drop i items)))
  pub as_many : length values ≡ i

-- one more, before what is read of the rest
pub behind_more : {A : Type 0} (xs : List A) (x : A) (rest : Reading (List A))
    → behind xs (rest >>= λ ys. Ok (x ∷ ys)) ≡ behind (xs ++ x ∷ []) rest
behind_more xs x (Ok ys) = ap (λ l. Ok l) (sym (append_assoc xs (x ∷ []) ys))
behind_more xs x (Err e) = refl

-- what may want memory, within an element
pub Reads_inside : {A : Type 0} (step : PathStep) (reading answer : Reading A) → Reads reading answer
    → Reads (at_step step reading) (at_step step answer)
Reads_inside step reading (Ok a) h = rw h refl
Reads_inside step reading (Err e) (inl h) = inl h
Reads_inside step reading (Err e) (inr h) = inr (rw h refl)
