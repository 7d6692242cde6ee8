-- What an access reads and writes, part by part.
use Rattle.std.specs.Prelude.{ℕ, ◌<◌, Bool, true, false, ◌&&◌, ◌||◌, ◌==◌, ◌⊎◌, IsTrue}
use Rattle.std.specs.Int.{bit_at}
use Rattle.msg_world.specs.declared.access.Access.{Access}
pub use Rattle.msg_world.specs.declared.part.Part.{Part}
pub use Rattle.msg_world.specs.declared.part.Part.TheVariants.{OfType, OfResource, Registry}

-- the part is one of so many types and resources, or the registry
abbrev pub HasPart : ℕ → ℕ → Part → Type 0
HasPart types resources (OfType t) = t < types
HasPart types resources (OfResource r) = r < resources
HasPart types resources Registry = Unit {0}

-- whether they are one part
abbrev pub same_part : Part → Part → Bool
same_part (OfType t) (OfType u) = t == u
same_part (OfResource r) (OfResource s) = r == s
same_part Registry Registry = true
same_part _ _ = false

-- bit k of a mask is set
abbrev pub has_bit : ℕ → ℕ → Bool
has_bit mask k = bit_at mask k == 1

-- whether the access reads the part; the registry is only ever written
abbrev pub reads : Access → Part → Bool
reads a (OfType t) = has_bit a.read_types t
reads a (OfResource r) = has_bit a.read_res r
reads a Registry = false

-- whether the access writes the part; to signal is to write the registry
abbrev pub writes : Access → Part → Bool
writes a (OfType t) = has_bit a.write_types t
writes a (OfResource r) = has_bit a.write_res r
writes a Registry = a.registry

-- the access writes a type or a resource
abbrev pub WritesTypeOrResource : Access → Type 0
WritesTypeOrResource a = ((t : ℕ) × IsTrue (writes a (OfType t)))
    ⊎ ((r : ℕ) × IsTrue (writes a (OfResource r)))

-- whether the access reads or writes the part
abbrev pub uses : Access → Part → Bool
uses a p = reads a p || writes a p

-- there is a part that one of them writes and the other uses
abbrev pub Conflict : Access → Access → Type 0
Conflict a b = (p : Part) × (IsTrue (writes a p && uses b p) ⊎ IsTrue (writes b p && uses a p))

-- A part is among these and among those. If the first are read and the second written it is a
-- clash.
abbrev pub Overlap : (Part → Bool) → (Part → Bool) → Type 0
Overlap these those = (p : Part) × IsTrue (these p && those p)

-- there is a part that is both read and written
abbrev pub IsClash : Access → Type 0
IsClash a = Overlap (reads a) (writes a)

-- it uses no type and no resource but those below these numbers
pub record FitsWorldOf (types resources : ℕ) (a : Access) : Type 0 where
  pub types_below : (t : ℕ) → IsTrue (uses a (OfType t)) → t < types
  pub resources_below : (r : ℕ) → IsTrue (uses a (OfResource r)) → r < resources

-- the access that uses nothing
abbrev pub no_access : Access
no_access =
    record { read_types = 0; write_types = 0; read_res = 0; write_res = 0; registry = false }
