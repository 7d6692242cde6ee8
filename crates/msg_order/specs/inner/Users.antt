-- Which systems use each part, as the code keeps them. No public contract cites these.
use Rattle.std.specs.Prelude.{Bool, IsTrue, List, bit_or, ℕ, ◌&&◌, ◌==◌, ◌||◌, ◌≡◌, ◌⊎◌}
use Rattle.msg_world.specs.{Prelude.has_bit, Prelude.reads, Prelude.writes, declared.access.Access.Access, declared.part.Part.Part, declared.part.Part.TheVariants.OfResource, declared.part.Part.TheVariants.OfType, declared.part.Part.TheVariants.Registry}
use Rattle.msg_order.specs.{Order.access_of, Settled.has_joined, declared.system_set.SystemSet.SystemSet, declared.users.Users.Users, inner.Paths.comes_before, inner.Paths.set_at, inner.SystemSet.has, inner.SystemSet.no_set}

-- system k uses a part whose bit is set: it is in the row of that part
abbrev pub IsUser : List SystemSet → ℕ → ℕ → Type 0
IsUser rows parts k = (t : ℕ) × IsTrue (has_bit parts t && comes_before rows k t)

-- system k reads a part that is written, or writes one that is read or written
abbrev pub IsInConflict : List SystemSet → List SystemSet → ℕ → ℕ → ℕ → Type 0
IsInConflict readers writers read written k =
    IsUser readers written k ⊎ IsUser writers (bit_or read written) k

-- the systems that read a part; the registry is only ever written
abbrev pub readers_of : Users → Part → SystemSet
readers_of users (OfType t) = set_at users.read_types t
readers_of users (OfResource r) = set_at users.read_res r
readers_of users Registry = no_set

-- the systems that write it
abbrev pub writers_of : Users → Part → SystemSet
writers_of users (OfType t) = set_at users.write_types t
writers_of users (OfResource r) = set_at users.write_res r
writers_of users Registry = users.registry

-- the users of each part are the joined systems whose accesses say so
pub record AreUsers (accesses : List Access) (joined : List Bool) (users : Users) : Type 0 where
  pub read : (p : Part) (k : ℕ)
      → has (readers_of users p) k ≡ (has_joined joined k && reads (access_of accesses k) p)
  pub written : (p : Part) (k : ℕ)
      → has (writers_of users p) k ≡ (has_joined joined k && writes (access_of accesses k) p)

-- a system is added to the users of the parts of its access
pub record AddsUser (system : ℕ) (access : Access) (old new : Users) : Type 0 where
  pub read : (p : Part) (k : ℕ)
      → has (readers_of new p) k ≡ (has (readers_of old p) k || (reads access p && k == system))
  pub written : (p : Part) (k : ℕ)
      → has (writers_of new p) k ≡ (has (writers_of old p) k || (writes access p && k == system))
