-- A turn is over once its ops were done.
use Rattle.std.proofs.Common.{◌≡◌, ◌⊎◌, ℕ, zero, suc, List, [], None, Option, Some, arith, inl, inr, length, refl}
use Rattle.std.proofs.lemmas.List.{length_push}
use Rattle.msg_world.specs.Prelude.{Values, WorldState}
use Rattle.msg_system.specs.Prelude.{AfterProgram, Meaning, Op, Reply, after_at_most, next_op, one_more}
use Rattle.msg_system.specs.declared.limits.TheConstants.{MAX_OPS}
use Rattle.msg_system.proofs.Deciding.{none_done}

module _ {V : Type 0} {values : Values V} (next : List (Reply V) → Option (Op V)) (w : ℕ) (ps : ℕ → ℕ) (s : WorldState values) where
  one_longer : (n : ℕ) (o : Option (Op V)) (far : AfterProgram values) → next far.replies ≡ o
      → (next far.replies ≡ None) ⊎ (length far.replies ≡ n)
      → (next (one_more o w far).replies ≡ None) ⊎ (length (one_more o w far).replies ≡ suc n)
  one_longer n None far is so = inl is
  one_longer n (Some op) far is (inl none) = absurd (grind (arith, is, none))
  one_longer n (Some op) far is (inr long) = inr (rw (length_push, long) (omega arith))

  -- nothing comes next, or as many ops were done as could be
  pub over_or_full : (n : ℕ) → (next (after_at_most n next w ps s).replies ≡ None) ⊎ (length (after_at_most n next w ps s).replies ≡ n)
  over_or_full zero = inr refl
  over_or_full (suc n) =
      let far : AfterProgram values = after_at_most n next w ps s in
      one_longer n (next far.replies) far refl (over_or_full n)

pub turn_is_over : {V : Type 0} {values : Values V} (m : Meaning V) (s : WorldState values)
    → next_op m (after_at_most MAX_OPS (next_op m) m.writer m.places s).replies ≡ None
turn_is_over m s =
    elim (over_or_full (next_op m) m.writer m.places s MAX_OPS) [
      | inl none ↦ none
      | inr full ↦ none_done m.needs (m.rule []) _ _ refl (λ op is few. absurd (omega (arith, full, few)))
    ]
