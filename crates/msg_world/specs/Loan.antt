-- What a loan shows of a world: what its access only reads by the world itself, and what it writes
-- by parts of its own.
use Rattle.std.specs.Prelude.{◌≡◌, ℕ, Option, None, IsSome, IfSome, IsTrue, is_some, false, [], if◌then◌else◌}
use mir.Syntax.{named}
use Rattle.std.specs.Borrow.{LendsIf, MutBor, Fml, RattleType}
use Rattle.msg_buffer.specs.Prelude.{Kept}
use Rattle.msg_world.specs.{declared.access.Access.Access, declared.record.Record.Record, declared.lent.Lent.Lent, contracts.lent.Lent.the_row as lent_row}
use Rattle.msg_world.specs.Access.{Part, reads, writes, uses}
use Rattle.msg_world.specs.WritingThrough.{messages_row, with_type, with_value}
use Rattle.msg_world.specs.Parts.{Parts, SameShape, SameSize, Stuff, StuffStands, slot}
use Rattle.msg_world.specs.World.{Values, WorldState, content}

module _ {V : Type 0} where
  -- the access that it was made for
  abbrev pub access_of_loan : Lent V → Access
  access_of_loan l = l.access.now

  -- the parts of its own
  abbrev pub taken_of : Lent V → Parts V
  taken_of l = l.taken

  -- what it shows of a part: nothing of what its access doesn't use
  abbrev pub shown : (p : Part) → Lent V → Option (Stuff V p)
  shown p l = if writes l.access.now p then slot p l.taken else if reads l.access.now p
      then slot p l.world.now else None

  -- what it lets be written of a part
  abbrev pub writable : (p : Part) → Lent V → Option (Stuff V p)
  writable p l = if writes l.access.now p then slot p l.taken else None

-- It shows every part that its access uses, lets every part be written that its access writes, and
-- no other.
pub record IsComplete {V : Type 0} (l : Lent V) : Type 0 where
  pub shows : (p : Part) → is_some (shown p l) ≡ uses l.access.now p
  pub writes : (p : Part) → is_some (writable p l) ≡ writes l.access.now p

module _ {V : Type 0} {values : Values V} where
  -- whatever it shows stands for that part of a world
  abbrev pub LoanStands : Lent V → WorldState values → Type 0
  LoanStands l s = (p : Part) → IfSome (shown p l) (λ k. StuffStands V p k (content p s))

-- the same loan, with other contents of what it lets be written
pub record SameLoan {V : Type 0} (old new : Lent V) : Type 0 where
  pub access : new.access ≡ old.access
  pub world : new.world ≡ old.world
  pub shape : SameShape old.taken new.taken

-- What was moved out fits an access and a world: it is what the access writes, and what the access
-- only reads is home.
pub record IsLoanOf {V : Type 0} (a : Access) (world taken : Parts V) : Type 0 where
  pub size : SameSize world taken
  pub written : (p : Part) → is_some (slot p taken) ≡ writes a p
  pub read : (p : Part) → IsTrue (reads a p) → writes a p ≡ false → IsSome (slot p world)

-- ---- how the references that it gives out write back

module _ {V : Type 0} where
  -- the loan with other messages of a type
  abbrev pub with_messages : Lent V → ℕ → Kept (Record V) → Lent V
  with_messages l t k = record l { taken = with_type l.taken t k }

  -- the loan with another value of a resource
  abbrev pub with_resource : Lent V → ℕ → V → Lent V
  with_resource l r z = record l { taken = with_value l.taken r z }

-- the loan ends with this type's messages as they were left
abbrev pub LendsWriter : (V : RattleType) → MutBor (Lent V.Denot) → ℕ
    → Option (MutBor (Kept (Record V.Denot))) → Fml
LendsWriter V l t given =
    LendsIf (lent_row (record { mir = named 0; lft = [] }) V) (messages_row V) l given
    (with_messages l.now t) l.now

-- the loan ends with this resource as it was left
abbrev pub LendsResource : (V : RattleType) → MutBor (Lent V.Denot) → ℕ → Option (MutBor V.Denot)
    → Fml
LendsResource V l r given =
    LendsIf (lent_row (record { mir = named 0; lft = [] }) V) V l given
    (with_resource l.now r) l.now
