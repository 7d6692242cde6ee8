-- What replies tell is added to totals one by one.
use Rattle.std.proofs.Common.{arith, ◌≡◌, ℕ, zero, suc, false, is_some, List, [], ◌∷◌, length, drop, get_or, set, ◌<◌, None, Option, Some, refl, sym, ap, ◌∙◌, slice_get, inl, inr}
use Rattle.std.specs.{Global.Vec, Option.option_map_or, Vec.with_items}
use Rattle.std.proofs.lemmas.{Bool.cases_Bool, Bool.false≢true, List.set-get_or, List.with_items_is, Option.slice_get_cases, Option.get_or_from_slice_get, Option.none-some, Option.same_Some}
use Rattle.msg_system.specs.{declared.op.Op.Op, declared.reply.Reply.Reply}
use Rattle.msg_frames.specs.declared.totals.Totals.{Totals}
use Rattle.msg_frames.specs.declared.log.Outcome.{Outcome}
use Rattle.msg_frames.specs.Prelude.{entry_of, with_answer, with_answers, with_entries, with_refused}
use Rattle.msg_system.specs.Prelude.{is_spent, refused_by}
use Rattle.msg_system.specs.declared.op.Op.TheVariants as op
use Rattle.msg_system.specs.declared.reply.Reply.TheVariants as reply
use Rattle.msg_frames.proofs.EntriesAddUp.{with_entries-none}
use Rattle.msg_exec.specs.Prelude.{capped_totals}
use Rattle.msg_exec.specs.{inner.SystemsOut.HaveEntered, inner.Totals.entry_at, inner.Totals.refused_there, inner.Totals.totals_by, inner.Totals.totals_with}

-- the same totals are kept alike
pub kept_alike : {x y t : Totals} → x ≡ y → t ≡ capped_totals y → t ≡ capped_totals x
kept_alike same is = is ∙ ap capped_totals (sym same)

module _ {V : Type 0} where
  -- ---- what one reply adds

  -- who wrote all was refused nothing
  unspent : (op : Op V) (reply : Reply V) → is_spent reply ≡ false → refused_by op reply ≡ None
  unspent (op.Write t v) reply.Spent h = absurd (false≢true (sym h))
  unspent (op.Batch t vs) reply.Spent h = absurd (false≢true (sym h))
  unspent (op.Forward a t) (reply.Forwarded took None) h = absurd (false≢true (sym h))
  unspent (op.Write t v) _ h = refl
  unspent (op.Batch t vs) _ h = refl
  unspent (op.Forward a t) _ h = refl
  unspent _ _ h = refl

  -- a reply that tells of no reader and of no refusal adds nothing
  adds_none : (o : Option (Op V)) (t : ℕ) (reply : Reply V) (x : Totals) → is_some (entry_of reply) ≡ false → is_spent reply ≡ false
      → option_map_or (λ op. with_answer t op reply x) o x ≡ x
  adds_none None t reply x none whole = refl
  adds_none (Some op) t reply x none whole = grind (arith, cases_Bool, none, unspent op reply whole, with_entries-none V x)

  pub nothing_added : (t : ℕ) (ops : List (Op V)) (k : ℕ) (reply : Reply V) (x : Totals) → is_some (entry_of reply) ≡ false
      → is_spent reply ≡ false → totals_with t ops k reply x ≡ x
  nothing_added t ops k reply x none whole = adds_none (slice_get ops k) t reply x none whole

  pub nothing_refused : (t : ℕ) (ops : List (Op V)) (k : ℕ) (reply : Reply V) → is_spent reply ≡ false → refused_there t ops k reply ≡ 0
  nothing_refused t ops k reply whole = elim (slice_get_cases ops k).1 [
    | inl found ↦ rw (found.2, unspent found.0 reply whole) refl
    | inr past ↦ rw past.1 refl
  ]

  -- what it adds is the entry of what was read, and what was refused
  pub in_two : (t : ℕ) (ops : List (Op V)) (k : ℕ) (reply : Reply V) (x : Totals)
      → with_refused (refused_there t ops k reply) (with_entries (entry_at t ops k reply) x) ≡ totals_with t ops k reply x
  in_two t ops k reply x = elim (slice_get_cases ops k).1 [
    | inl found ↦ grind (arith, found.2)
    | inr past ↦ grind (arith, past.1, with_entries-none V x)
  ]

  -- ---- what replies add, one after the other

  -- the answers from op k on are that of op k and those after it
  pub answers_from : (t : ℕ) (ops : List (Op V)) (replies : List (Reply V)) (k : ℕ) (reply : Reply V) (x : Totals)
      → slice_get replies k ≡ Some reply
      → with_answers t (drop k ops) (drop k replies) x
      ≡ with_answers t (drop (suc k) ops) (drop (suc k) replies) (totals_with t ops k reply x)
  answers_from t ops [] k reply x here = absurd (none-some reply here)
  answers_from t [] (r ∷ replies) zero reply x here = refl
  answers_from t (op ∷ ops) (r ∷ replies) zero reply x here = grind (arith, same_Some)
  answers_from t [] (r ∷ replies) (suc k) reply x here = refl
  answers_from t (op ∷ ops) (r ∷ replies) (suc k) reply x here = answers_from t ops replies k reply x here

  pub without_replies : (t : ℕ) (ops : List (Op V)) (x : Totals) → with_answers t ops [] x ≡ x
  without_replies t [] x = refl
  without_replies t (op ∷ ops) x = refl

  -- nothing was entered in totals that stay, if nothing is added
  pub none_entered : (ops : List (Op V)) (o : Outcome V) → ((t : ℕ) (x : Totals) → totals_by t ops o x ≡ x)
      → (all : List (Vec Totals)) (number : ℕ) → number < length all
      → (v : Vec Totals) × (all ≡ set all number v)
      × ((u : Vec Totals) → slice_get all number ≡ Some u → HaveEntered ops o u.items v.items)
  none_entered ops o none all number lt = elim (slice_get_cases all number).1 [
    | inl found ↦ (
      found.0,
      rw found.3 at (sym (set-get_or all number found.0)),
      λ u is.
          rw (same_Some u found.0 (sym is ∙ found.2)) (record {
            as_many = refl;
            entered = λ t x lt was. kept_alike (none t x) was;
          }),
    )
    | inr past ↦ absurd (omega (arith, lt, past.0))
  ]

-- ---- the totals of a system, among those of all

module _ {V : Type 0} where
  -- what its turn told is entered in its totals where they stand
  pub entered_there : (ops : List (Op V)) (o : Outcome V) (number : ℕ) (all : List (Vec Totals)) {x : Vec Totals}
      {was now : List Totals}
      → x ≡ get_or all number x → was ≡ x.items → length now ≡ x.len → HaveEntered ops o was now
      → (u : Vec Totals) → slice_get all number ≡ Some u → HaveEntered ops o u.items (with_items x now).items
  entered_there ops o number all {x} {was} {now} at there size entered u is =
      let same : u ≡ x = sym (get_or_from_slice_get all number u x is) ∙ sym at in
      rw (same, with_items_is x now size, ← there) entered
