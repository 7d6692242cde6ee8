-- What one op on a loan does, by the cursors of its system.
use Rattle.std.specs.Prelude.{◌≡◌, ℕ, slice_index}
use Rattle.msg_world.specs.{Prelude.LoanStands, Prelude.WorldState, declared.lent.Lent.Lent, Prelude.Values}
use Rattle.msg_system.specs.{declared.cursors.Cursors.Cursors, declared.op.Op.Op, declared.reply.Reply.Reply, Programs.AfterOp, Programs.AsksForMemory, Programs.after_op}

-- the place in each type, by the type's number
abbrev pub cursor_places : Cursors → ℕ → ℕ
cursor_places cursors t = slice_index cursors.by_type t

-- the places, the loan and the reply are those after an op
pub record IsAfterOp {V : Type 0} {values : Values V} (after : AfterOp values) (places : ℕ → ℕ)
    (lent : Lent V)
    (answer : Reply V) : Type 0 where
  pub same_places : places ≡ after.places
  pub stands : LoanStands lent after.world
  pub same_reply : answer ≡ after.reply

-- For each state that the loan stood for, the new places, loan and reply are those after the op.
abbrev pub OpRan : {V : Type 0} (values : Values V) → Op V → ℕ → (ℕ → ℕ) → (ℕ → ℕ) → Lent V → Lent V
    → Reply V → Type 0
OpRan values op writer old_places new_places old new answer =
    (s : WorldState values) → LoanStands old s
    → IsAfterOp (after_op op writer old_places s) new_places new answer

-- The op may be refused for want of memory: it asks for memory in each state that the loan stands
-- for.
abbrev pub MayBeRefused : {V : Type 0} (values : Values V) → Op V → (ℕ → ℕ) → Lent V → Type 0
MayBeRefused values op places lent = (s : WorldState values) → LoanStands lent s
    → AsksForMemory op places s
