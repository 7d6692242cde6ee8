-- What the private functions of programs and turns say. No public contract cites these.
use Rattle.std.specs.Prelude.{◌≡◌, ℕ, ◌++◌, List, [], ◌∷◌, None, Option, length}
use Rattle.msg_world.specs.{Prelude.LoanStands, Prelude.WorldState, declared.lent.Lent.Lent, Prelude.Values}
use Rattle.msg_system.specs.{declared.limits.TheConstants.MAX_OPS, declared.op.Op.Op, declared.reply.Reply.Reply, Needs.Needs, OpRuns.OpRan}
use Rattle.msg_system.specs.Programs.{AfterProgram, after_program}
use Rattle.msg_system.specs.Systems.{after_at_most, next_done, ops_answered}

-- places of a system that has read nothing
abbrev pub nowhere : ℕ → ℕ
nowhere t = 0

-- the places, the loan and the replies are those after a program
pub record IsAfterProgram {V : Type 0} {values : Values V} (after : AfterProgram values)
    (places : ℕ → ℕ) (lent : Lent V)
    (before answers : List (Reply V)) : Type 0 where
  pub same_places : places ≡ after.places
  pub stands : LoanStands lent after.world
  pub same_replies : answers ≡ before ++ after.replies

-- an op ran, and its reply was appended
pub record OpAnswered {V : Type 0} (values : Values V) (op : Op V) (writer : ℕ)
    (old_places new_places : ℕ → ℕ) (old new : Lent V)
    (before answers : List (Reply V)) : Type 0 where
  pub reply : Reply V
  pub ran : OpRan values op writer old_places new_places old new reply
  pub appended : answers ≡ before ++ reply ∷ []

-- For each state that the loan stood for, the new places, loan and replies are those after the ops.
abbrev pub ProgramRan : {V : Type 0} (values : Values V) → List (Op V) → ℕ → (ℕ → ℕ) → (ℕ → ℕ)
    → Lent V → Lent V → List (Reply V)
    → List (Reply V) → Type 0
ProgramRan values ops writer old_places new_places old new before answers =
    (s : WorldState values) → LoanStands old s
    → IsAfterProgram (after_program ops writer old_places s) new_places new before answers

module _ {V : Type 0} where
  -- so many replies were appended
  abbrev pub HasReplies : List (Reply V) → List (Reply V) → ℕ → Type 0
  HasReplies before answers n = (more : List (Reply V)) × (answers ≡ before ++ more)
      × (length more ≡ n)

-- the places, the loan and the replies are those after a turn
abbrev pub TurnRan : {V : Type 0} (values : Values V) → (List (Reply V) → Option (Op V)) → ℕ
    → (ℕ → ℕ) → (ℕ → ℕ) → Lent V → Lent V → List (Reply V)
    → List (Reply V) → Type 0
TurnRan values next writer old_places new_places old new before answers =
    (s : WorldState values) → LoanStands old s
    → IsAfterProgram (after_at_most MAX_OPS next writer old_places s) new_places new before answers

module _ {V : Type 0} where
  -- replies were appended, and these are the ops that they are answers to, one each
  abbrev pub AreAnswered : (List (Reply V) → Option (Op V)) → List (Op V) → List (Reply V)
      → List (Reply V) → Type 0
  AreAnswered next ops before answers =
      (more : List (Reply V)) × (answers ≡ before ++ more) × (ops ≡ ops_answered next more)
      × (length ops ≡ length more)

  -- They were, and no more are done: this op, or none, is what the rule gives then.
  pub record IsOver (n : Needs) (rule : List (Reply V) → Option (Op V)) (ops : List (Op V))
      (left : Option (Op V)) (before answers : List (Reply V)) : Type 0 where
    pub answered : AreAnswered (next_done n rule) ops before answers
    pub left_over : left ≡ rule answered.0
    pub none_done : next_done n rule answered.0 ≡ None
