-- What holds of parts that are lent and taken back, one after the other or side by side.
use Rattle.std.specs.Prelude.{◌≡◌, ◌||◌, ℕ, false, None, IsSome, IsTrue, is_some}
use Rattle.msg_buffer.specs.Prelude.{History, Kept, StandsFor}
use Rattle.msg_world.specs.{declared.access.Access.Access, declared.lent.Lent.Lent, declared.record.Record.Record}
use Rattle.msg_world.specs.Access.{Part, OfType, OfResource, Conflict, writes}
use Rattle.msg_world.specs.Loan.{IsComplete, IsLoanOf, LoanStands, SameLoan, access_of_loan, taken_of, with_messages, with_resource, writable}
use Rattle.msg_world.specs.Parts.{IsApart, IsHome, LendsOut, Parts, PartsStand, SameShape, TakesBack, slot}
use Rattle.msg_world.specs.World.{Values, WorldState, merge, with_history, with_value_of}

-- What was moved out is a loan of its access, and the world and the loan still stand for what the
-- world stood for.
abbrev pub LentIsLoan : {V : Type 0} → Values V → Type 0
LentIsLoan {V} values = (a : Access) (old left taken : Parts V) → IsHome a old
    → LendsOut a old left taken
    → IsLoanOf a left taken
    × ((s : WorldState values) → PartsStand old s → PartsStand left s × PartsStand taken s)

-- What is written through a loan leaves it the same loan, and it stands for the world in which that
-- was written.
abbrev pub WritesStand : {V : Type 0} → Values V → Type 0
WritesStand {V} values = (l : Lent V) (t : ℕ) (k : Kept (Record V)) → IsSome (writable (OfType t) l)
    → SameLoan l (with_messages l t k)
    × ((s : WorldState values) (h : History (Record V)) → StandsFor k h → LoanStands l s
    → LoanStands (with_messages l t k) (with_history s t h))

-- The same holds of a value that is written to a resource.
abbrev pub ValuesStand : {V : Type 0} → Values V → Type 0
ValuesStand {V} values = (l : Lent V) (r : ℕ) (z : V) → IsSome (writable (OfResource r) l)
    → SameLoan l (with_resource l r z)
    × ((s : WorldState values) → LoanStands l s
    → LoanStands (with_resource l r z) (with_value_of s r z))

-- A loan stays one while parts are moved out of its world for an access that doesn't conflict with
-- its own.
abbrev pub LoanStays : Type 0 → Type 0
LoanStays V = (a b : Access) (world taken left others : Parts V)
    → ¬ Conflict a b → IsLoanOf a world taken → LendsOut b world left others → IsLoanOf a left taken

-- What an access needs at home stays there while parts are moved out for one that doesn't conflict
-- with it.
abbrev pub OthersStayHome : Type 0 → Type 0
OthersStayHome V = (a b : Access) (old left taken : Parts V)
    → ¬ Conflict a b → IsHome b old → LendsOut a old left taken → IsHome b left

-- What was moved out may be taken back, whatever was written to it.
abbrev pub MayComeHome : Type 0 → Type 0
MayComeHome V = (a : Access) (old left taken later : Parts V)
    → LendsOut a old left taken → SameShape taken later → IsApart later left

-- It still may when other parts have come home before it.
abbrev pub StaysApart : Type 0 → Type 0
StaysApart V = (taken others world home : Parts V) → IsApart taken world
    → TakesBack others world home
    → ((p : Part) → IsSome (slot p taken) → slot p others ≡ None) → IsApart taken home

-- Parts that an access wrote come home: the world then has them as they come, and all else as it
-- was.
abbrev pub HomeMerges : {V : Type 0} → Values V → Type 0
HomeMerges {V} values = (a : Access) (taken world home : Parts V) (mine s : WorldState values)
    → ((p : Part) → writes a p ≡ false → slot p taken ≡ None)
    → ((p : Part) → IsTrue (writes a p) → slot p world ≡ None)
    → TakesBack taken world home → PartsStand taken mine → PartsStand world s
    → PartsStand home (merge a mine s)

-- A part is home if it was before, and if it came home: so loans may end in any order.
abbrev pub HomeWhereEither : Type 0 → Type 0
HomeWhereEither V = (taken world home : Parts V) → TakesBack taken world home
    → (p : Part) → is_some (slot p home) ≡ (is_some (slot p taken) || is_some (slot p world))

-- Everything that was home is home again.
abbrev pub HomeAgain : Type 0 → Type 0
HomeAgain V = (a : Access) (old left taken later home : Parts V)
    → LendsOut a old left taken → SameShape taken later → TakesBack later left home
    → SameShape old home

-- A loan from its beginning to its end: what an access writes was moved out and opened, and used in
-- any way. What the loan owns then may be taken back; everything that was home is home again, and
-- the world stands for the one before, with what the access writes as the loan left it.
abbrev pub LoanEnds : {V : Type 0} → Values V → Type 0
LoanEnds {V} values = (a : Access) (old left taken : Parts V) (begun ended : Lent V)
    → LendsOut a old left taken → access_of_loan begun ≡ a → taken_of begun ≡ taken
    → SameLoan begun ended
    → IsApart (taken_of ended) left
    × ((home : Parts V) → TakesBack (taken_of ended) left home
    → SameShape old home
    × ((s mine : WorldState values) → PartsStand old s → LoanStands ended mine
    → PartsStand home (merge a mine s)))

-- In any use a loan still shows all that its access uses, and lets all be written that its access
-- writes.
abbrev pub StaysComplete : Type 0 → Type 0
StaysComplete V = (old new : Lent V) → SameLoan old new → IsComplete old → IsComplete new

-- It owns what its access writes and nothing else, in any use.
abbrev pub OwnsWhatItWrites : Type 0 → Type 0
OwnsWhatItWrites V = (a : Access) (world taken later : Parts V) → IsLoanOf a world taken
    → SameShape taken later
    → IsLoanOf a world later × ((p : Part) → writes a p ≡ false → slot p later ≡ None)

-- What it owns stands for the world that the loan stands for.
abbrev pub OwnedStands : {V : Type 0} → Values V → Type 0
OwnedStands {V} values = (l : Lent V) (world : Parts V) (s : WorldState values)
    → IsLoanOf (access_of_loan l) world (taken_of l)
    → LoanStands l s → PartsStand (taken_of l) s
