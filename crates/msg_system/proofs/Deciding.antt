-- Turns that a behavior decides, op after op.
use Rattle.std.proofs.Common.{refl, ◌≡◌, ℕ, zero, suc, ◌<◌, ◌≤◌, ◌++◌, true, false, List, [], ◌∷◌, length, Option, Some, None, sym, arith, inl, inr, ap, ◌∙◌, append_assoc, drop}
use Rattle.std.proofs.{Math.Seq.drop-append_seam, lemmas.Bool.cases_Bool, lemmas.Bool.cases_eq, lemmas.Bool.cases_lt, lemmas.List.append_cancel_left, lemmas.Bool.false≢true, lemmas.List.length_push}
use Rattle.msg_world.specs.{Prelude.SameLoan, Prelude.WorldState, declared.lent.Lent.Lent, Prelude.Values}
use Rattle.msg_system.specs.{Prelude.Covers, Prelude.Needs, Prelude.Op, Prelude.OpRan, Prelude.Reply, Prelude.after_at_most, Prelude.keeps_to, Prelude.next_done, Prelude.op_needs, declared.limits.TheConstants.MAX_OPS, inner.TurnRuns.AreAnswered, inner.TurnRuns.IsAfterProgram}
use Rattle.msg_system.proofs.{Lendings.writable_is_shown, Runs.op_more, Turns.IsKept, Turns.ops_answered-snoc}

-- ---- a turn, op after op

-- a loan that covers what is needed covers each op that keeps to it, also after a change of what it lets be written
pub covers_kept : {V : Type 0} (op : Op V) (n : Needs) (l m : Lent V) → IsKept n op → SameLoan l m → Covers n l → Covers (op_needs op) m
covers_kept op n l m keeps same covers =
    let later : Covers n m = grind (arith, same, covers) in
    grind (arith, keeps, later, cases_Bool, writable_is_shown, false≢true)

module _ {V : Type 0} {values : Values V} (next : List (Reply V) → Option (Op V)) (w : ℕ) (ps : ℕ → ℕ) (s : WorldState values) where
  -- if the rule says that the turn is over, it stays as it is
  pub stays : (n k : ℕ) → k ≤ n → next (after_at_most k next w ps s).replies ≡ None → after_at_most n next w ps s
      ≡ after_at_most k next w ps s
  stays zero k le h = grind arith
  stays (suc n) k le h =
      elim (cases_eq k (suc n)) [ inl e ↦ rw e refl | inr ne ↦ grind (arith, stays n k (omega (arith, le, ne)) h) ]

  module _ (k : ℕ) (qs : ℕ → ℕ) (l : Lent V) (before out more : List (Reply V)) (split : out ≡ before ++ more)
      (far : IsAfterProgram (after_at_most k next w ps s) qs l before out) where
    so_far : (after_at_most k next w ps s).replies ≡ more
    so_far = append_cancel_left before _ _ (sym far.same_replies ∙ split)

    pub turn_over : k ≤ MAX_OPS → next more ≡ None → IsAfterProgram (after_at_most MAX_OPS next w ps s) qs l before out
    turn_over le h = rw (stays MAX_OPS k le (rw so_far h)) far

    pub turn_more : (op : Op V) (rs : ℕ → ℕ) (m : Lent V) (r : Reply V) → Some op ≡ next more → OpRan values op w qs rs l m r
        → IsAfterProgram (after_at_most (suc k) next w ps s) rs m before (out ++ r ∷ [])
    turn_more op rs m r is ran = rw (ap next so_far ∙ sym is) (op_more op w qs rs l m _ before out r far ran)

-- ---- what comes next

module _ {V : Type 0} (n : Needs) (rule : List (Reply V) → Option (Op V)) (rs : List (Reply V)) where
  -- an op that keeps to what is needed is done, if there were fewer than a turn may have
  pub is_done : (op : Op V) → Some op ≡ rule rs → length rs < MAX_OPS → keeps_to n op ≡ true → Some op ≡ next_done n rule rs
  is_done op is few keeps = grind arith

  -- and no other
  pub none_done : (o : Option (Op V)) → o ≡ rule rs → ((op : Op V) → o ≡ Some op → length rs < MAX_OPS → keeps_to n op ≡ false)
      → next_done n rule rs ≡ None
  none_done None is isnt = grind arith
  none_done (Some op) is isnt = grind (arith, cases_lt, isnt op refl)

-- ---- which ops were answered

-- what was appended, without what stood before
pub appended : {V : Type 0} (next : List (Reply V) → Option (Op V)) (ops : List (Op V)) (before after : List (Reply V))
    (are : AreAnswered next ops before after) → drop (length before) after ≡ are.0
appended next ops before after are = rw are.1 (drop-append_seam before are.0)

-- one op more
pub answered_more : {V : Type 0} (next : List (Reply V) → Option (Op V)) (ops : List (Op V)) (before after : List (Reply V)) (op : Op V) (r : Reply V)
    (are : AreAnswered next ops before after)
    → Some op ≡ next are.0 → AreAnswered next (ops ++ op ∷ []) before (after ++ r ∷ [])
answered_more next ops before after op r are is = (
  are.0 ++ r ∷ [],
  rw (are.1, append_assoc) refl,
  rw (ops_answered-snoc, ← is, are.2) refl,
  rw (length_push, length_push, are.3) refl,
)
