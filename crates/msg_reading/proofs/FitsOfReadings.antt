-- What holds of all that a reading gives.
use Rattle.std.proofs.Common.{◌≡◌, ℕ, suc, ◌+◌, ◌≤◌, List, [], ◌∷◌, length, refl, ap, arith, Bool, true, false, All, Ok, Err, IfOk, nat_le, zero-add, if◌then◌else◌}
use Rattle.std.proofs.lemmas.{Bool.leb-true, List.Elements.All-cons, List.Elements.All-nil, Result.IfOk-at_ok, Result.IfOk-weaker}
use Rattle.serde_json.specs.Data.{Data}
use Rattle.msg_json.specs.Prelude.{Reading, at_step, elements, is_list, list_up_to, wanted, ◌>>=◌}
use Rattle.msg_json.specs.declared.location.PathStep.{PathStep}
use Rattle.msg_json.specs.declared.reason.Reason.{Reason}
use Rattle.msg_reading.specs.Prelude.{Declared, each_from, each_of}

-- it holds of what the second gives, whatever the first gave
pub in_then : {X A : Type 0} (P : A → Type 0) (r : Reading X) (g : X → Reading A)
    → ((x : X) → r ≡ Ok x → IfOk (g x) P) → IfOk (r >>= g) P
in_then P (Ok x) g h = h x refl
in_then P (Err e) g h = tt

-- it holds of what the second gives for what the first gave, read at a place
pub of_part : {X A : Type 0} (Q : X → Type 0) (P : A → Type 0) (step : PathStep) (r : Reading X) (g : X → Reading A)
    → IfOk r Q → ((x : X) → Q x → IfOk (g x) P) → IfOk (at_step step r >>= g) P
of_part Q P step (Ok x) g of h = h x of
of_part Q P step (Err e) g of h = tt

-- it holds of either
pub either : {A : Type 0} (P : A → Type 0) (b : Bool) (r s : Reading A) → IfOk r P → IfOk s P
    → IfOk (if b then r else s) P
either P true r s h k = h
either P false r s h k = k

-- what is wanted holds
pub of_wanted : {A : Type 0} (P : A → Type 0) (b : Bool) (why : Reason) (g : Unit {0} → Reading A)
    → (b ≡ true → IfOk (g tt) P) → IfOk (wanted b why >>= g) P
of_wanted P true why g h = h refl
of_wanted P false why g h = tt

-- ---- lists

few_elements : (most : ℕ) (d : Data) → IfOk (list_up_to most d) (λ ds. length ds ≤ most)
few_elements most d =
    let Few = λ (ds : List Data). length ds ≤ most in
    of_wanted Few (is_list d) _ _ (λ _.
    of_wanted Few (nat_le (length (elements d)) most) _ _ (λ few. leb-true (length (elements d)) most few))

module _ {A : Type 0} (f : Declared → ℕ → Data → Reading (A × Declared)) (P : A → Type 0) (Inv : ℕ → Declared → Type 0)
    (one : (names : Declared) (k : ℕ) (d : Data) → Inv k names → IfOk (f names k d) (λ x. P x.0 × Inv (k + 1) x.1)) where
  abbrev pub IsFitList : ℕ → ℕ → List A × Declared → Type 0
  IsFitList n many x = All P x.0 × (length x.0 ≡ many) × Inv (n + many) x.1

  each_fits : (names : Declared) (n : ℕ) (ds : List Data) → Inv n names
      → IfOk (each_from f names n ds) (IsFitList n (length ds))
  each_fits names n [] inv = let none : n + 0 ≡ n = omega arith in (All-nil P, refl, rw none inv)
  each_fits names n (d ∷ ds) inv =
      in_then (IsFitList n (length (d ∷ ds))) (f names n d) _ (λ x is.
      let here = IfOk-at_ok (λ (y : A × Declared). P y.0 × Inv (n + 1) y.1) is (one names n d inv) in
      in_then (IsFitList n (length (d ∷ ds))) (each_from f x.1 (n + 1) ds) _ (λ y are.
      let rest = IfOk-at_ok (IsFitList (n + 1) (length ds)) are (each_fits x.1 (n + 1) ds here.1) in
      let many : n + 1 + length ds ≡ n + length (d ∷ ds) = omega arith in
      (All-cons P x.0 y.0 here.0 rest.0, ap (λ k. suc k) rest.1, rw many at rest.2)))

  -- a list of at most so many
  abbrev pub IsFit : ℕ → List A × Declared → Type 0
  IsFit most x = All P x.0 × (length x.0 ≤ most) × Inv (length x.0) x.1

  pub list_fits : (most : ℕ) (names : Declared) (d : Data) → Inv 0 names → IfOk (each_of most f names d) (IsFit most)
  list_fits most names d inv =
      in_then (IsFit most) (list_up_to most d) (each_from f names 0) (λ ds is.
      let few = IfOk-at_ok (λ (ys : List Data). length ys ≤ most) is (few_elements most d) in
      IfOk-weaker (each_from f names 0 ds) (IsFitList 0 (length ds)) (IsFit most) (λ x fit.
      (fit.0, rw fit.1 few, rw (zero-add, ← fit.1) at fit.2)) (each_fits names 0 ds inv))
