-- What a system promises of its runs, in a box or not.
use Rattle.std.specs.Prelude.{All, ◌≡◌, ◌⊎◌, ℕ, suc, ◌++◌, false, None, IfSome, IsSome, IsTrue, List, [], ◌∷◌, length}
use Rattle.msg_world.specs.declared.lent.Lent.{Lent}
use Rattle.msg_world.specs.declared.part.Part.{Part}
use Rattle.msg_world.specs.Prelude.{IsComplete, LoanStands, Parts, PartsStand, SameLoan, StuffStands, WorldState, access_of_loan, content, shown, slot, taken_of, uses, writable, writes, Values}
use Rattle.msg_system.specs.{declared.condition.Condition.Condition, declared.op.Op.Op, declared.reply.Reply.Reply, declared.start.Start.Start, OpRuns.OpRan}
use Rattle.msg_system.specs.Needs.{IsAccessOf, Needs, condition_needs, op_needs, program_needs, with_conditions}
use Rattle.msg_system.specs.Systems.{Meaning, of_program, only, after_replies, turn}

-- A loan covers what is needed: it shows what is read, and lets be written what is written. It may
-- lend more.
pub record Covers {V : Type 0} (n : Needs) (l : Lent V) : Type 0 where
  pub reads : (p : Part) → IsTrue (n.reads p) → IsSome (shown p l)
  pub writes : (p : Part) → IsTrue (n.writes p) → IsSome (writable p l)

module _ {V : Type 0} {values : Values V} where
  -- Each part that a loan's access writes stands, as it is given back, for that part of a world.
  abbrev pub WrittenStand : Lent V → Parts V → WorldState values → Type 0
  WrittenStand l taken s = (p : Part) → IsTrue (writes (access_of_loan l) p)
      → IfSome (slot p taken) (λ k. StuffStands V p k (content p s))

-- A run on a loan is the system's turn, on each world that the loan stands for.
pub record Ran {V : Type 0} (values : Values V) (old new : Meaning V) (lent : Lent V)
    (taken : Parts V)
    (before after : List (Reply V)) : Type 0 where
  -- the replies of this turn, one for each op, and one more if it was cut
  pub replies : List (Reply V)
  pub appended : after ≡ before ++ replies
  pub one_each : (length new.last ≡ length replies) ⊎ (suc (length new.last) ≡ length replies)
  -- what the system means changes by these replies and its places alone
  pub means : new ≡ record (after_replies replies old) { places = new.places }
  pub state : (s : WorldState values) → LoanStands lent s
      → WrittenStand lent taken (turn old s).world
  pub answers : (s : WorldState values) → LoanStands lent s → replies ≡ (turn old s).replies
  pub places : (s : WorldState values) → LoanStands lent s → new.places ≡ (turn old s).places

-- A loan that covers a program of one op covers that op.
abbrev pub OneOpIsCovered : Type 0 → Type 0
OneOpIsCovered V = (op : Op V) (l : Lent V) → Covers (program_needs (op ∷ [])) l
    → Covers (op_needs op) l

-- One op that ran is the turn of a system whose program is that op, if its reply is appended and
-- its loan given back.
abbrev pub OneOpIsATurn : {V : Type 0} → Values V → Type 0
OneOpIsATurn {V} values = (op : Op V) (start : Start) (writer : ℕ) (old_places new_places : ℕ → ℕ)
    (old new : Lent V) (before : List (Reply V)) (reply : Reply V)
    → OpRan values op writer old_places new_places old new reply → SameLoan old new
    → Ran values (of_program (only op start) writer old_places)
    (of_program (only op start) writer new_places) old (taken_of new) before (before ++ reply ∷ [])

-- If only parts that the access writes are given back, and these stand for a world, all that is
-- given back stands for it.
abbrev pub WrittenIsAll : {V : Type 0} → Values V → Type 0
WrittenIsAll {V} values = (l : Lent V) (taken : Parts V) (s : WorldState values)
    → ((p : Part) → writes (access_of_loan l) p ≡ false → slot p taken ≡ None)
    → WrittenStand l taken s → PartsStand taken s

-- A loan that has all that its access uses covers what is within that access.
abbrev pub CompleteCovers : Type 0 → Type 0
CompleteCovers V = (n : Needs) (l : Lent V) → IsComplete l
    → ((p : Part) → IsTrue (n.reads p) → IsTrue (uses (access_of_loan l) p))
    → ((p : Part) → IsTrue (n.writes p) → IsTrue (writes (access_of_loan l) p)) → Covers n l

-- A loan that has all that a job needs covers its system and each of its conditions.
abbrev pub JobsCover : Type 0 → Type 0
JobsCover V = (n : Needs) (cs : List (Condition V)) (l : Lent V) → IsComplete l
    → IsAccessOf (with_conditions n cs) (access_of_loan l)
    → Covers n l × All (λ c. Covers (condition_needs c) l) cs
