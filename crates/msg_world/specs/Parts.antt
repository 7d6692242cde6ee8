-- What is at home in a world, or was moved out of it, and what it stands for.
use Rattle.std.specs.Prelude.{◌≡◌, Option, None, IsSome, IfSome, is_some, IsTrue, List, length, slice_index_or, if◌then◌else◌}
use Rattle.std.specs.Option.{option_or}
use Rattle.msg_buffer.specs.Prelude.{Kept, StandsFor}
use Rattle.msg_world.specs.{declared.record.Record.Record, declared.marks.Marks.Marks, declared.access.Access.Access, Access.HasPart, Access.Part, Access.OfType, Access.OfResource, Access.Registry, Access.uses, Access.writes, World.Values, World.WorldState, World.Content, World.content}

-- A slot for each type, for each resource, and for the registry's marks: empty if that part is
-- elsewhere.
pub record Parts (V : Type 0) : Type 0 where
  pub types : List (Option (Kept (Record V)))
  pub resources : List (Option V)
  pub marks : Option Marks

-- what the code keeps of a part
abbrev pub Stuff : Type 0 → Part → Type 0
Stuff V (OfType t) = Kept (Record V)
Stuff V (OfResource r) = V
Stuff V Registry = Marks

module _ {V : Type 0} where
  -- what is there of a part; nothing of a part that the world hasn't got
  abbrev pub slot : (p : Part) → Parts V → Option (Stuff V p)
  slot (OfType t) w = slice_index_or w.types t None
  slot (OfResource r) w = slice_index_or w.resources r None
  slot Registry w = w.marks

  -- the world has this part, at home or elsewhere
  abbrev pub Has : Parts V → Part → Type 0
  Has w p = HasPart (length w.types) (length w.resources) p

-- the same parts in number
pub record SameSize {V : Type 0} (old new : Parts V) : Type 0 where
  pub types : length new.types ≡ length old.types
  pub resources : length new.resources ≡ length old.resources

-- the same parts are there
pub record SameShape {V : Type 0} (old new : Parts V) : Type 0 where
  pub size : SameSize old new
  pub there : (p : Part) → is_some (slot p new) ≡ is_some (slot p old)

module _ {V : Type 0} where
  -- everything is home
  abbrev pub IsWhole : Parts V → Type 0
  IsWhole w = (p : Part) → Has w p → IsSome (slot p w)

  -- everything that an access uses is home
  abbrev pub IsHome : Access → Parts V → Type 0
  IsHome a w = (p : Part) → IsTrue (uses a p) → IsSome (slot p w)

-- what is kept of a part stands for it
abbrev pub StuffStands : (V : Type 0) (p : Part) → Stuff V p → Content V p → Type 0
StuffStands V (OfType t) k h = StandsFor k h
StuffStands V (OfResource r) y z = y ≡ z
StuffStands V Registry m n = m ≡ n

module _ {V : Type 0} {values : Values V} where
  -- whatever is there stands for that part of a world
  abbrev pub PartsStand : Parts V → WorldState values → Type 0
  PartsStand w s = (p : Part) → IfSome (slot p w) (λ k. StuffStands V p k (content p s))

-- Parts are apart from a world: they are as many, and what is there of them is out of the world.
pub record IsApart {V : Type 0} (taken world : Parts V) : Type 0 where
  pub size : SameSize world taken
  pub out : (p : Part) → IsSome (slot p taken) → slot p world ≡ None

-- What an access writes was moved out of a world, and all else stayed.
pub record LendsOut {V : Type 0} (a : Access) (old left taken : Parts V) : Type 0 where
  pub moved : (p : Part) → slot p taken ≡ (if writes a p then slot p old else None)
  pub stayed : (p : Part) → slot p left ≡ (if writes a p then None else slot p old)
  pub taken_size : SameSize old taken
  pub left_size : SameSize old left

-- What was moved out is in the world again, and all else as it was.
pub record TakesBack {V : Type 0} (taken old new : Parts V) : Type 0 where
  pub joined : (p : Part) → slot p new ≡ option_or (slot p taken) (slot p old)
  pub size : SameSize old new
