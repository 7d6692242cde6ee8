-- A turn by a program's rule is its ops in order.
use Rattle.std.proofs.Common.{◌≡◌, ◌⊎◌, ℕ, zero, suc, ◌<◌, ◌≤◌, ◌++◌, Bool, true, false, ◌&&◌, if◌then◌else◌, nat_lt, List, [], ◌∷◌, length, Option, Some, None, take, refl, subst, sym, ap, ◌∙◌, arith, inl, inr, append_assoc, option_and_then, option_map, option_to_list, IsTrue, slice_get}
use Rattle.std.proofs.{Math.Path.fun_ext, lemmas.List.Folds.list_any_at}
use Rattle.std.proofs.lemmas.Bool.{and_from, and_parts, eqb-true, false≢true}
use Rattle.std.proofs.lemmas.List.{append-nil, append_cancel_left, length-take-le, length_push, take_more, take_all}
use Rattle.std.proofs.lemmas.Option.{get_or_from_slice_get, none-some, same_Some, slice_get_cases, slice_get_past, slice_get_within}
use Rattle.msg_world.specs.{declared.part.Part.Part, Prelude.Parts, Prelude.SameLoan, Prelude.WorldState, Prelude.taken_of, declared.lent.Lent.Lent, Prelude.Values}
use Rattle.msg_system.specs.Prelude.{AfterProgram, IsInOrder, Meaning, Needs, OneOpIsATurn, Op, Program, Ran, Reply, after_at_most, after_op, after_program, cut_after, is_none_or, is_part, keeps_to, may_read, next_done, next_op, of_program, only, op_needs, op_parts, ops_answered, program_needs, after_replies, refusal, turn}
use Rattle.msg_system.specs.declared.limits.TheConstants.{MAX_OPS}
use Rattle.msg_system.specs.inner.TurnRuns.{AreAnswered, HasReplies, ProgramRan, TurnRan}
use Rattle.msg_system.proofs.Runs.{after_program-snoc, same_part_refl}

-- ---- a program keeps to what it needs

none_or_all : (holds : Part → Bool) (o : Option Part) → ((p : Part) → IsTrue (is_part o p) → IsTrue (holds p))
    → IsTrue (is_none_or holds o)
none_or_all holds o p = grind (arith, same_part_refl)

pub op_kept : {V : Type 0} (ops : List (Op V)) (i : ℕ) (op : Op V) → slice_get ops i ≡ Some op → keeps_to (program_needs ops) op ≡ true
op_kept ops i op is =
    let lt = slice_get_within ops i op is in
    let at = get_or_from_slice_get ops i op op is in
    and_from _ _
    (none_or_all _ (op_parts op).read
    (λ p h. grind (arith, false≢true, list_any_at (λ o. (op_needs o).reads p) ops i op lt (rw at h))))
    (none_or_all _ (op_parts op).written (λ p h. list_any_at (λ o. (op_needs o).writes p) ops i op lt (rw at h)))

-- what a rule gives after k replies, if it is done
abbrev pub done_of : {V : Type 0} → Needs → ℕ → Option (Op V) → Option (Op V)
done_of n k o = option_and_then (λ op. if nat_lt k MAX_OPS && keeps_to n op then Some op else None) o

-- an op that keeps to what is needed is done, if there were fewer than a turn may have
pub kept_done : {V : Type 0} (n : Needs) (k : ℕ) (o : Option (Op V)) → k < MAX_OPS → ((op : Op V) → o ≡ Some op → IsTrue (keeps_to n op))
    → done_of n k o ≡ o
kept_done n k None few kept = refl
kept_done n k (Some op) few kept = grind (arith, kept op refl, few)

-- so is each of at most `MAX_OPS` such ops
pub next_of_ops : {V : Type 0} (n : Needs) (ops : List (Op V)) (k : ℕ) → length ops ≤ MAX_OPS
    → ((op : Op V) → slice_get ops k ≡ Some op → keeps_to n op ≡ true) → done_of n k (slice_get ops k) ≡ slice_get ops k
next_of_ops n ops k few kept =
    elim (slice_get_cases ops k).1 [
      | inl h ↦ kept_done n k (slice_get ops k) (omega (arith, h.1, few)) kept
      | inr h ↦ rw (slice_get_past ops k (omega (arith, h.0))) refl
    ]

program_nexts : {V : Type 0} (program : Program V) (w : ℕ) (ps : ℕ → ℕ) → length program.ops ≤ MAX_OPS
    → next_op (of_program program w ps) ≡ (λ (rs : List (Reply V)). slice_get program.ops (length rs))
program_nexts program w ps few = fun_ext (λ rs. next_of_ops (program_needs program.ops) program.ops (length rs) few (op_kept program.ops (length rs)))

-- and nothing is asked for after it
program_over : {V : Type 0} (program : Program V) (w : ℕ) (ps : ℕ → ℕ) (rs : List (Reply V)) → length rs ≡ length program.ops
    → cut_after ((of_program program w ps).rule []) rs ≡ []
program_over program w ps rs all = rw (slice_get_past program.ops (length rs) (omega (arith, all))) refl

-- ---- a program is its ops in order

pub one_reply_each : {V : Type 0} {values : Values V} (ops : List (Op V)) (w : ℕ) (ps : ℕ → ℕ) (s : WorldState values) → length (after_program ops w ps s).replies
    ≡ length ops
one_reply_each [] w ps s = refl
one_reply_each (op ∷ ops) w ps s = ap suc (one_reply_each ops w _ (after_op op w ps s).world)

-- as far as so many ops
pub so_far : {V : Type 0} {values : Values V} (ops : List (Op V)) (n w : ℕ) (ps : ℕ → ℕ) (s : WorldState values)
    → after_at_most n (λ replies. slice_get ops (length replies)) w ps s ≡ after_program (take n ops) w ps s
so_far ops zero w ps s = refl
so_far ops (suc n) w ps s =
    rw (so_far ops n w ps s, one_reply_each) (elim (slice_get_cases ops n).1 [
      | inl h ↦
          let more : take (suc n) ops ≡ take n ops ++ h.0 ∷ [] = grind (arith, take_more ops n h.0 h.1, h.3) in
          rw (more, after_program-snoc, length-take-le n ops (omega (arith, h.1)), h.2) refl
      | inr h ↦
          let over = slice_get_past ops (length ops) (omega arith) in
          rw (take_all n ops h.0, take_all (suc n) ops (omega (arith, h.0)), over) refl
    ])

-- a turn of at most n ops is the whole program, if the program has no more than n
program_so_far : {V : Type 0} {values : Values V} (program : Program V) (n w : ℕ) (ps : ℕ → ℕ) (s : WorldState values) → length program.ops ≤ MAX_OPS
    → length program.ops ≤ n → after_at_most n (next_op (of_program program w ps)) w ps s ≡ after_program program.ops w ps s
program_so_far program n w ps s few all =
    rw (program_nexts program w ps few, so_far program.ops n w ps s, take_all n program.ops all) refl

pub ops_answered-snoc : {V : Type 0} (next : List (Reply V) → Option (Op V)) (rs : List (Reply V)) (r : Reply V) → ops_answered next (rs ++ r ∷ [])
    ≡ ops_answered next rs ++ option_to_list (next rs)
ops_answered-snoc next [] r = append-nil (option_to_list (next []))
ops_answered-snoc next (x ∷ rs) r = rw (ops_answered-snoc (λ now. next (x ∷ now)) rs r, append_assoc) refl

-- what a cut turn ends with answers no op that was done
pub cut_answers_none : {V : Type 0} (next : List (Reply V) → Option (Op V)) (left : Option (Op V)) (rs : List (Reply V)) → next rs ≡ None
    → ops_answered next (rs ++ option_to_list (option_map (refusal rs) left)) ≡ ops_answered next rs
cut_answers_none next None rs over = rw append-nil refl
cut_answers_none next (Some op) rs over = rw (ops_answered-snoc, over, append-nil) refl

answered_first : {V : Type 0} (ops : List (Op V)) (rs : List (Reply V)) → ops_answered (λ replies. slice_get ops (length replies)) rs
    ≡ take (length rs) ops
answered_first ops [] = refl
answered_first [] (r ∷ rs) = answered_first [] rs ∙ take_all (length rs) [] (omega arith)
answered_first (op ∷ ops) (r ∷ rs) = ap (λ xs. op ∷ xs) (answered_first ops rs)

-- the replies to a whole program are answers to its ops
pub answered_all : {V : Type 0} (program : Program V) (w : ℕ) (ps : ℕ → ℕ) (rs : List (Reply V)) → length program.ops ≤ MAX_OPS
    → length rs ≡ length program.ops → ops_answered (next_op (of_program program w ps)) rs ≡ program.ops
answered_all program w ps rs few all =
    rw (program_nexts program w ps few, answered_first program.ops rs)
    (take_all (length rs) program.ops (omega (arith, all)))

pub in_order : {V : Type 0} {values : Values V} → IsInOrder values
unfolding turn
in_order {V} {values} program w ps s few =
    let m : Meaning V = of_program program w ps in
    let all : AfterProgram values = after_program program.ops w ps s in
    let each : length all.replies ≡ length program.ops = one_reply_each program.ops w ps s in
    let over : record all { replies = all.replies ++ cut_after (m.rule []) all.replies } ≡ all =
    rw (program_over program w ps all.replies each, append-nil) refl in
    let is : turn m s ≡ all =
    ap (λ (e : AfterProgram values). record e { replies = e.replies ++ cut_after (m.rule []) e.replies })
    (program_so_far program MAX_OPS w ps s few few)
    ∙ over in
    let stays : record (after_replies all.replies m) { places = all.places } ≡ of_program program w all.places =
    rw (answered_all program w ps all.replies few each) refl in
    (is, subst (λ (e : AfterProgram values). record (after_replies e.replies m) { places = e.places } ≡ of_program program w e.places) (sym is) stays)

-- ---- an op that keeps to what is needed

-- part by part
pub record IsKept {V : Type 0} (n : Needs) (op : Op V) : Type 0 where
  pub reads : (p : Part) → IsTrue ((op_needs op).reads p) → IsTrue (may_read n p)
  pub writes : (p : Part) → IsTrue ((op_needs op).writes p) → IsTrue (n.writes p)

pub kept : {V : Type 0} (n : Needs) (op : Op V) → IsTrue (keeps_to n op) → IsKept n op
kept n op h = grind (arith, and_parts, eqb-true, false≢true)

kept_of : {V : Type 0} (room : Bool) (n : Needs) (o : Option (Op V)) (op : Op V)
    → option_and_then (λ x. if room && keeps_to n x then Some x else None) o ≡ Some op → IsKept n op
kept_of room n None op is = absurd (none-some op is)
kept_of false n (Some x) op is = absurd (none-some op is)
kept_of true n (Some x) op is = grind (arith, none-some, same_Some, kept n x)

-- what is done keeps to what is needed
pub next_kept_to : {V : Type 0} (n : Needs) (rule : List (Reply V) → Option (Op V)) (rs : List (Reply V)) (op : Op V)
    → next_done n rule rs ≡ Some op → IsKept n op
next_kept_to n rule rs op is = kept_of (nat_lt (length rs) MAX_OPS) n (rule rs) op is

-- ---- a run of a turn

as_many_or_more : {V : Type 0} (left : Option (Op V)) (ops : List (Op V)) (rs : List (Reply V)) → length ops ≡ length rs
    → (length ops ≡ length (rs ++ option_to_list (option_map (refusal rs) left)))
    ⊎ (suc (length ops) ≡ length (rs ++ option_to_list (option_map (refusal rs) left)))
as_many_or_more None ops rs same = inl (rw append-nil same)
as_many_or_more (Some op) ops rs same = inr (rw length_push (omega (arith, same)))

-- a turn that was answered so and then ended, if the system then means what it was told
pub ran_turn : {V : Type 0} {values : Values V} (old new : Meaning V) (l m : Lent V) (taken : Parts V) (before far after : List (Reply V))
    → TurnRan values (next_op old) old.writer old.places new.places l m before far → SameLoan l m → taken ≡ taken_of m
    → (are : AreAnswered (next_op old) new.last before far)
    → after ≡ far ++ cut_after (old.rule []) are.0
    → new ≡ record (after_replies (are.0 ++ cut_after (old.rule []) are.0) old) { places = new.places }
    → Ran values old new l taken before after
unfolding turn
ran_turn {V} old new l m taken before far after ran same is are ends means =
    let end : List (Reply V) = cut_after (old.rule []) are.0 in
    record {
      replies = are.0 ++ end;
      appended = rw (ends, are.1, append_assoc) refl;
      one_each = as_many_or_more (old.rule [] are.0) _ are.0 are.3;
      means = means;
      state = λ s stands p written. grind (arith, same, is, (ran s stands).stands);
      answers = λ s stands.
          let told : are.0 ≡ (after_at_most MAX_OPS (next_op old) old.writer old.places s).replies =
          append_cancel_left before _ _ (sym are.1 ∙ (ran s stands).same_replies) in
          ap (λ rs. rs ++ cut_after (old.rule []) rs) told;
      places = λ s stands. (ran s stands).same_places;
    }

pub ran_program : {V : Type 0} {values : Values V} (program : Program V) (w : ℕ) (ps qs : ℕ → ℕ) (l m : Lent V) (taken : Parts V) (before after : List (Reply V))
    → length program.ops ≤ MAX_OPS
    → ProgramRan values program.ops w ps qs l m before after → HasReplies before after (length program.ops) → SameLoan l m
    → taken ≡ taken_of m
    → Ran values (of_program program w ps) (of_program program w qs) l taken before after
ran_program program w ps qs l m taken before after few ran replies same is =
    let all = answered_all program w ps replies.0 few replies.2 in
    let over = program_over program w ps replies.0 replies.2 in
    ran_turn (of_program program w ps) (of_program program w qs) l m taken before after after
    (λ s stands. rw (program_so_far program MAX_OPS w ps s few few) (ran s stands)) same is
    (replies.0, replies.1, sym all, sym replies.2) (rw (over, append-nil) refl) (rw (over, append-nil, all) refl)

pub one_op_is_a_turn : {V : Type 0} {values : Values V} → OneOpIsATurn values
one_op_is_a_turn op start w ps qs l m before r ran same =
    ran_program (only op start) w ps qs l m (taken_of m) before (before ++ r ∷ []) (omega arith)
    (λ s stands. grind (arith, ran s stands)) (r ∷ [], refl, refl) same refl
