-- Puts one after another.
use Rattle.std.proofs.Common.{◌≡◌, ◌≢◌, ℕ, List, [], ◌∷◌, ◌++◌, ap, ◌∙◌, append_assoc, Result, Ok, Err, Option, OnErr, arith}
use Rattle.std.specs.Io.KnownBytes.{Appends}
use Rattle.std.proofs.KnownBytes.{Appends-trans}
use Rattle.msg_json.specs.Prelude.{failures_after, AppendsPrefix}

-- a put that took something leaves the failures where they were
pub failures_kept : (E : Type 0) (before old new n : ℕ) (xs : List ℕ) → new ≡ failures_after {E = E} old (Ok n) xs
    → n ≢ 0 → old ≡ before → new ≡ before
failures_kept E before old new n [] counts some kept = grind arith
failures_kept E before old new n (x ∷ xs) counts some kept = grind arith

-- what came before, and a front of what comes next, is a front of all
pub AppendsPrefix_after : (a b c : Option (List ℕ)) (x y z text : List ℕ) → text ≡ (x ++ y) ++ z
    → Appends a b x → AppendsPrefix b c y → AppendsPrefix a c text
AppendsPrefix_after a b c x y z text e p q = (
  x ++ q.0,
  q.1 ++ z,
  simp append_assoc (simp append_assoc at (e ∙ ap (λ l. (x ++ l) ++ z) q.2)),
  Appends-trans a b c x q.0 p q.3,
)

-- what holds anyway holds of an error
pub on_err : (E : Type 0) {T : Type 0} (r : Result T E) (P : Type 0) → P → OnErr r P
on_err E (Ok x) P p = tt
on_err E (Err e) P p = p
