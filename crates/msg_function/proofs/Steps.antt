-- Ops on a loan, one after the other, and what a loan covers of them.
use Rattle.std.proofs.Common.{◌≡◌, ℕ, ◌+◌, ◌++◌, List, [], ◌∷◌, length, Option, Some, None, refl, ap, ◌∙◌, arith, append_assoc, IsSome, IsTrue, option_to_list, option_map, slice_get, suc, ◌-◌, rules}
use Rattle.std.proofs.lemmas.{Bool.cases_Bool, Bool.eq-eqb, Bool.false≢true, Bool.cases_eq, List.append-nil, List.length-append}
use Rattle.msg_world.specs.{declared.part.Part.Part, Prelude.SameLoan, Prelude.WorldState, Prelude.same_part, Prelude.shown, Prelude.writable, declared.lent.Lent.Lent, Prelude.Values}
use Rattle.msg_system.specs.{declared.op.Op.Op, declared.reply.Reply.Reply}
use Rattle.msg_system.specs.Prelude.{AfterOp, AfterProgram, Covers, OpRan, Step, after_op, after_program, op_needs, cursor_places}
use Rattle.msg_system.proofs.Runs.{same_loan_trans}
use Rattle.msg_system.specs.inner.TurnRuns.{HasReplies, ProgramRan}
use Rattle.msg_function.specs.inner.Runs.{OpsRan}
use Rattle.msg_function.specs.declared.identity.Identity.{Identity}
use Rattle.msg_function.specs.declared.port.Port.{Port}
use Rattle.msg_function.specs.Functions.{Answer, nothing, part_of, read_op, write_op, written_op, written_ops}

-- ---- what a loan covers

pub same_part_same : (p q : Part) → IsTrue (same_part p q) → p ≡ q
same_part_same p q h = grind (arith, eq-eqb, cases_eq, false≢true, cases_Bool)

-- the same parts are shown, and may be written, after a change of what a loan lets be written
pub still_shown : {V : Type 0} (p : Part) (l m : Lent V) → SameLoan l m → IsSome (shown p l) → IsSome (shown p m)
still_shown p l m same there = grind (arith, same, cases_Bool)

pub still_writable : {V : Type 0} (p : Part) (l m : Lent V) → SameLoan l m → IsSome (writable p l) → IsSome (writable p m)
still_writable p l m same there = grind (arith, same, cases_Bool)

-- a loan that shows a part covers the op that reads it
pub covers_read : {V : Type 0} (port : Port) (l : Lent V) → IsSome (shown (part_of port) l) → Covers (op_needs (read_op {V = V} port)) l
covers_read port l there = grind (arith, same_part_same, false≢true)

-- a loan that lets a part be written covers the op that writes it
pub covers_written : {V : Type 0} (port : Port) (values : List V) (last : V) (l : Lent V) → IsSome (writable (part_of port) l)
    → Covers (op_needs (write_op port values last)) l
covers_written port values last l there = grind (arith, same_part_same, false≢true)

pub same_loan_refl : {V : Type 0} (l : Lent V) → SameLoan l l
same_loan_refl l = search rules

-- ---- a program, and then another

module _ {V : Type 0} {values : Values V} where
  -- what one program leaves, and then another
  abbrev pub joined : AfterProgram values → AfterProgram values → AfterProgram values
  joined first rest = record {
    places = rest.places;
    world = rest.world;
    replies = first.replies ++ rest.replies;
    steps = first.steps ++ rest.steps;
  }

  pub after_program-append : (xs ys : List (Op V)) (w : ℕ) (ps : ℕ → ℕ) (s : WorldState values)
      → after_program (xs ++ ys) w ps s
      ≡ joined (after_program xs w ps s)
      (after_program ys w (after_program xs w ps s).places (after_program xs w ps s).world)
  after_program-append [] ys w ps s = refl
  after_program-append (x ∷ xs) ys w ps s =
      let here : AfterOp values = after_op x w ps s in
      let done : Step values = record { op = x; places = ps; world = s; reply = here.reply } in
      ap (λ (e : AfterProgram values). record {
        places = e.places;
        world = e.world;
        replies = here.reply ∷ e.replies;
        steps = done ∷ e.steps;
      })
      (after_program-append xs ys w here.places here.world)

  ran_then' : (xs ys : List (Op V)) (w : ℕ) (ps qs rs : ℕ → ℕ) (l m n : Lent V) (a b c : List (Reply V))
      → ProgramRan values xs w ps qs l m a b → ProgramRan values ys w qs rs m n b c
      → ProgramRan values (xs ++ ys) w ps rs l n a c
  ran_then' xs ys w ps qs rs l m n a b c first second s stands =
      let far = first s stands in
      let end = second (after_program xs w ps s).world far.stands in
      rw after_program-append (grind (arith, append_assoc, far, end))

replies_then : {V : Type 0} (a b c : List (Reply V)) (i j : ℕ) → HasReplies a b i → HasReplies b c j → HasReplies a c (i + j)
replies_then a b c i j first second = (
  first.0 ++ second.0,
  rw (second.1, first.1, append_assoc) refl,
  rw (length-append, first.2, second.2) refl,
)

module _ {V : Type 0} {values : Values V} where
  -- ops ran, and then others
  pub ran_then : {xs ys : List (Op V)} {me mine his : Identity} {l m n : Lent V} {a b c : List (Reply V)}
      → OpsRan values xs me mine l m a b → OpsRan values ys mine his m n b c → OpsRan values (xs ++ ys) me his l n a c
  ran_then {xs} {ys} {me} {mine} {his} {l} {m} {n} {a} {b} {c} first second = record {
    ran = ran_then' xs ys me.writer _ _ _ l m n a b c first.ran (rw first.writer at second.ran);
    replies = rw length-append (replies_then a b c _ _ first.replies second.replies);
    same = same_loan_trans l m n first.same second.same;
    writer = second.writer ∙ first.writer;
  }

  -- nothing ran
  pub none_ran : (me : Identity) (l : Lent V) (a : List (Reply V)) → OpsRan values [] me me l l a a
  none_ran me l a = record {
    ran = λ s stands. record { same_places = refl; stands = stands; same_replies = search rules };
    replies = ([], search rules, refl);
    same = same_loan_refl l;
    writer = refl;
  }

  -- one op ran
  pub one_ran : (op : Op V) (r : Reply V) (me mine : Identity) (l m : Lent V) (a b : List (Reply V))
      → OpRan values op me.writer (cursor_places me.cursors) (cursor_places mine.cursors) l m r → SameLoan l m
      → mine.writer ≡ me.writer → b ≡ a ++ r ∷ [] → OpsRan values (op ∷ []) me mine l m a b
  one_ran op r me mine l m a b ran same writer is = record {
    ran = λ s stands. grind (arith, is, ran s stands);
    replies = (r ∷ [], is, refl);
    same = same;
    writer = writer;
  }

-- ---- what is written

-- the op that writes something is covered
covers_found : {V : Type 0} (port : Port) (values : List V) (o : Option V) (op : Op V) (l : Lent V)
    → op ∷ [] ≡ option_to_list (option_map (write_op port values) o) → IsSome (writable (part_of port) l) → Covers (op_needs op) l
covers_found port values None op l is there = grind (arith, is)
covers_found port values (Some last) op l is there = grind (arith, is, covers_written port values last l there)

pub covers_answer : {V : Type 0} (port : Port) (values : List V) (op : Op V) (l : Lent V) → op ∷ [] ≡ written_op port values
    → IsSome (writable (part_of port) l) → Covers (op_needs op) l
covers_answer port values op l is there = covers_found port values (slice_get values (length values - 1)) op l is there

-- one part more
pub written_ops-push : {V : Type 0} (ports : List Port) (port : Port) (answer : Answer V) → written_ops (ports ++ port ∷ []) answer
    ≡ written_ops ports answer ++ written_op port (answer (length ports))
written_ops-push [] port answer = append-nil (written_op port (answer 0))
written_ops-push (x ∷ ports) port answer = rw (written_ops-push ports port (λ k. answer (suc k)), append_assoc) refl

-- nothing is written
pub no_writes : {V : Type 0} (ports : List Port) → written_ops {V = V} ports nothing ≡ []
no_writes [] = refl
no_writes (port ∷ ports) = no_writes ports
