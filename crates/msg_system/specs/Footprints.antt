-- What ops, turns, conditions and jobs depend on, and what they change: no more than they need.
use Rattle.std.specs.Prelude.{◌≡◌, ℕ, Bool, false, IsTrue, List, Option}
use Rattle.msg_world.specs.{declared.part.Part.Part, Prelude.WorldState, Prelude.content, Prelude.Values}
use Rattle.msg_system.specs.{declared.op.Op.Op, declared.reply.Reply.Reply}
use Rattle.msg_system.specs.Conditions.{AfterJob, Asked, Job, after_asking, after_job, answer, conditions_of}
use Rattle.msg_system.specs.Needs.{Needs, condition_needs, needs_any, op_needs, program_needs, with_conditions}
use Rattle.msg_system.specs.Programs.{AfterOp, AfterProgram, after_op, after_program}
use Rattle.msg_system.specs.Systems.{Meaning, turn}

module _ {V : Type 0} {values : Values V} where
  -- the worlds are the same in each of these parts
  abbrev pub Agree : (Part → Bool) → WorldState values → WorldState values → Type 0
  Agree m s t = (p : Part) → IsTrue (m p) → content p s ≡ content p t

-- the parts that are needed are among these
abbrev pub IsWithin : Needs → (Part → Bool) → Type 0
IsWithin n m = (p : Part) → IsTrue (needs_any n p) → IsTrue (m p)

-- What is done to a world changes only the parts that are written. Take any parts, among them those
-- that are needed: on two worlds that agree there it gives the same, and the worlds that it leaves
-- agree there.
pub record HasFootprint {V : Type 0} {values : Values V} {X Y : Type 0} (n : Needs)
    (state : X → WorldState values) (given : X → Y)
    (f : WorldState values → X) : Type 0 where
  pub kept : (s : WorldState values) (p : Part) → n.writes p ≡ false → content p (state (f s))
      ≡ content p s
  pub same : (m : Part → Bool) (s t : WorldState values) → IsWithin n m → Agree m s t → given (f s)
      ≡ given (f t)
  pub alike : (m : Part → Bool) (s t : WorldState values) → IsWithin n m → Agree m s t
      → Agree m (state (f s)) (state (f t))

module _ {V : Type 0} {values : Values V} where
  -- what an op gives, beside the world
  abbrev pub given_by_op : AfterOp values → (ℕ → ℕ) × Reply V
  given_by_op e = (e.places, e.reply)

  -- what a program gives, beside the world
  abbrev pub given_by_program : AfterProgram values → (ℕ → ℕ) × List (Reply V)
  given_by_program e = (e.places, e.replies)

  -- what a job gives, beside the world
  abbrev pub given_by_job : AfterJob values → Job V × Option (List (Reply V))
  given_by_job e = (e.job, e.replies)

-- An op depends on no part but those that it needs, and changes no part but those that it writes.
abbrev pub OpFootprint : {V : Type 0} → Values V → Type 0
OpFootprint {V} values = (op : Op V) (w : ℕ) (places : ℕ → ℕ)
    → HasFootprint (op_needs op) (λ (e : AfterOp values). e.world) given_by_op
    (after_op op w places)

-- The same holds of a program.
abbrev pub ProgramFootprint : {V : Type 0} → Values V → Type 0
ProgramFootprint {V} values = (ops : List (Op V)) (w : ℕ) (places : ℕ → ℕ)
    → HasFootprint (program_needs ops) (λ (e : AfterProgram values). e.world) given_by_program
    (after_program ops w places)

-- The same holds of a system's turn.
abbrev pub TurnFootprint : {V : Type 0} → Values V → Type 0
TurnFootprint {V} values =
    (m : Meaning V)
    → HasFootprint m.needs (λ (e : AfterProgram values). e.world) given_by_program (turn m)

-- What a condition answers, and its place afterwards, depend on no part but those that it needs.
abbrev pub ConditionFootprint : {V : Type 0} → Values V → Type 0
ConditionFootprint {V} values = (a : Asked V) (m : Part → Bool) (s t : WorldState values)
    → IsWithin (condition_needs a.condition) m → Agree m s t
    → (answer a s ≡ answer a t) × (after_asking s a ≡ after_asking t a)

-- The same holds of a job, which needs what its system and its conditions need.
abbrev pub JobFootprint : {V : Type 0} → Values V → Type 0
JobFootprint {V} values = (j : Job V)
    → HasFootprint (with_conditions j.system.needs (conditions_of j))
    (λ (e : AfterJob values). e.world) given_by_job (after_job j)
