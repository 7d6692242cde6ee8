-- Lists of a scenario file, element by element.
use Rattle.std.proofs.Common.{◌≡◌, ℕ, ◌+◌, List, [], ◌∷◌, ◌++◌, drop, map, refl, sym, ap, ◌∙◌, Ok, Err, inl, inr}
use Rattle.std.proofs.lemmas.List.{append_assoc}
use Rattle.serde_json.specs.{Data.Data, View.view, declared.value.Value.Value}
use Rattle.msg_json.specs.Prelude.{Reading, at_step, ◌>>=◌}
use Rattle.msg_json.specs.declared.fault.Fault.{Fault}
use Rattle.msg_json.specs.declared.location.PathStep.{PathStep}
use Rattle.msg_reading.specs.Prelude.{Declared, each_from}
use Rattle.msg_reading.specs.inner.Elements.{ReadsWith}

-- what is read of a list, behind what was read before
abbrev pub behind : {A : Type 0} → List A → Reading (List A × Declared) → Reading (List A × Declared)
behind read rest = rest >>= λ x. Ok (read ++ x.0, x.1)

-- one more, before what is read of the rest
behind_more : {A : Type 0} (xs : List A) (x : A) (rest : Reading (List A × Declared))
    → behind xs (rest >>= λ y. Ok (x ∷ y.0, y.1)) ≡ behind (xs ++ x ∷ []) rest
behind_more xs x (Ok y) = ap (λ l. Ok (l, y.1)) (sym (append_assoc xs (x ∷ []) y.0))
behind_more xs x (Err e) = refl

module _ {A : Type 0} (f : Declared → ℕ → Data → Reading (A × Declared)) (old : Declared) (items : List Value) where
  -- the elements so far were read, and those from n on are left
  pub record ElementsLeft (n : ℕ) (read : List A) (names : Declared) : Type 0 where
    pub so_far : each_from f old 0 (map view items)
        ≡ behind read (each_from f names n (map view (drop n items)))

  module _ (n : ℕ) (read : List A) (names : Declared) (left : ElementsLeft n read names) (v : Value)
      (is : drop n items ≡ v ∷ drop (n + 1) items) where
    -- an element that is refused refuses the list
    pub element_refused : (later : Declared) (e : Fault) → ReadsWith (f names n (view v)) later (Err e)
        → ReadsWith (each_from f old 0 (map view items)) later (Err e)
    element_refused later e (inl h) = inl h
    element_refused later e (inr h) = inr (left.so_far ∙ rw (is, h) refl)

    -- one element more
    pub element_more : (x : A) (later : Declared) → f names n (view v) ≡ Ok (x, later)
        → ElementsLeft (n + 1) (read ++ x ∷ []) later
    element_more x later h = record { so_far = left.so_far ∙ rw (is, h) (behind_more read x _) }

-- what may want memory, at a place within the file
pub ReadsWith_at_step : {A : Type 0} (step : PathStep) (reading : Reading (A × Declared)) (names : Declared)
    (answer : Reading A) → ReadsWith reading names answer → ReadsWith (at_step step reading) names (at_step step answer)
ReadsWith_at_step step reading names (Ok a) h = rw h refl
ReadsWith_at_step step reading names (Err e) (inl h) = inl h
ReadsWith_at_step step reading names (Err e) (inr h) = inr (rw h refl)
