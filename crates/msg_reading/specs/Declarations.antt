-- Names in a scenario file.
use Rattle.std.specs.Prelude.{ℕ, List, Option, position, option_and_then}
use Rattle.std.specs.Str.{bytes_eq}
use Rattle.msg_json.specs.Prelude.{Text, only_below}
use Rattle.msg_world.specs.declared.limits.TheConstants.{MAX_RESOURCES, MAX_SYSTEMS, MAX_TYPES}

-- the names that are declared so far, of three kinds
pub record Declared : Type 0 where
  pub types : List Text
  pub resources : List Text
  pub systems : List Text

-- where a name stands among others, from 0
abbrev pub position_of : List Text → Text → Option ℕ
position_of names name = position (bytes_eq name) names

-- the number of the type of this name, which is below `MAX_TYPES`
abbrev pub type_number : Declared → Text → Option ℕ
type_number names name = option_and_then (only_below MAX_TYPES) (position_of names.types name)

-- the number of the resource of this name, which is below `MAX_RESOURCES`
abbrev pub resource_number : Declared → Text → Option ℕ
resource_number names name =
    option_and_then (only_below MAX_RESOURCES) (position_of names.resources name)

-- the number of the system of this name, which is below `MAX_SYSTEMS`
abbrev pub system_number : Declared → Text → Option ℕ
system_number names name = option_and_then (only_below MAX_SYSTEMS) (position_of names.systems name)
