-- Runs of ops and of programs, from one op to the next.
use Rattle.std.proofs.Common.{◌≡◌, ℕ, ◌<◌, ◌++◌, true, List, [], ◌∷◌, length, Some, get_or, refl, ap, arith, append_assoc, IsSome, slice_set}
use Rattle.std.proofs.lemmas.{Bool.cases_eq, Bool.eq-eqb, Bool.ne_eqb, List.get_or_default, List.get_or-set_same, List.get_or-set_other}
use Rattle.msg_world.specs.{declared.part.Part.Part, Prelude.SameLoan, Prelude.WorldState, Prelude.same_part, Prelude.shown, Prelude.writable, declared.limits.TheConstants.MAX_TYPES, declared.lent.Lent.Lent, Prelude.Values}
use Rattle.msg_system.specs.Prelude.{AfterOp, AfterProgram, Step, Covers, Cursors, Op, OpRan, Reply, after_op, after_program, one_more, op_needs, op_parts, cursor_places, with_place}
use Rattle.msg_system.specs.inner.TurnRuns.{IsAfterProgram}

pub same_part_refl : (p : Part) → same_part p p ≡ true
same_part_refl p = grind (arith, eq-eqb)

-- a loan that covers an op shows what the op reads
pub covers_read : {V : Type 0} (op : Op V) (l : Lent V) (p : Part) → Covers (op_needs op) l → (op_parts op).read ≡ Some p
    → IsSome (shown p l)
covers_read op l p covers is = covers.reads p (rw is (same_part_refl p))

-- and lets be written what it writes
pub covers_written : {V : Type 0} (op : Op V) (l : Lent V) (p : Part) → Covers (op_needs op) l → (op_parts op).written ≡ Some p
    → IsSome (writable p l)
covers_written op l p covers is = covers.writes p (rw is (same_part_refl p))

-- one of the cursors of all types, as the array has it
module _ (cs : Cursors) (t k d : ℕ) (long : length cs.by_type ≡ MAX_TYPES) (is : k ≡ t) (lt : t < MAX_TYPES) where
  pub place_at : cursor_places cs t ≡ get_or cs.by_type k d
  place_at = rw is (get_or_default cs.by_type t 0 d (omega (arith, long, lt)))

  -- an op that moves it
  pub ran_at : {V : Type 0} {values : Values V} (op : Op V) (w new : ℕ) (l m : Lent V) (r : Reply V)
      → ((places : ℕ → ℕ) → places t ≡ get_or cs.by_type k d → OpRan values op w places (with_place places t new) l m r)
      → OpRan values op w (cursor_places cs) (cursor_places (record { by_type = slice_set cs.by_type k new })) l m r
  ran_at op w new l m r ran =
      let moves : cursor_places (record { by_type = slice_set cs.by_type t new })
      ≡ with_place (cursor_places cs) t new =
      grind (arith, long, lt, cases_eq, get_or-set_same, eq-eqb, get_or-set_other, ne_eqb) in
      rw (is, moves) (ran (cursor_places cs) place_at)

-- ---- one op more

pub same_loan_trans : {V : Type 0} (l m n : Lent V) → SameLoan l m → SameLoan m n → SameLoan l n
same_loan_trans l m n a b = grind arith

pub after_program-snoc : {V : Type 0} {values : Values V} (ops : List (Op V)) (op : Op V) (w : ℕ) (ps : ℕ → ℕ) (s : WorldState values)
    → after_program (ops ++ op ∷ []) w ps s ≡ one_more (Some op) w (after_program ops w ps s)
after_program-snoc [] op w ps s = refl
after_program-snoc {V} {values} (x ∷ ops) op w ps s =
    let here : AfterOp values = after_op x w ps s in
    let done : Step values = record { op = x; places = ps; world = s; reply = here.reply } in
    ap (λ (e : AfterProgram values). record {
      places = e.places;
      world = e.world;
      replies = here.reply ∷ e.replies;
      steps = done ∷ e.steps;
    })
    (after_program-snoc ops op w here.places here.world)

pub op_more : {V : Type 0} {values : Values V} (op : Op V) (w : ℕ) (qs rs : ℕ → ℕ) (l m : Lent V) (e : AfterProgram values) (before after : List (Reply V)) (r : Reply V)
    → IsAfterProgram e qs l before after → OpRan values op w qs rs l m r
    → IsAfterProgram (one_more (Some op) w e) rs m before (after ++ r ∷ [])
op_more op w qs rs l m e before after r far ran = grind (arith, append_assoc, far, ran e.world far.stands)
