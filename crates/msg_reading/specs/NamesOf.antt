-- The names of the parts of a scenario. A number that no part has goes without a name.
use Rattle.std.specs.Prelude.{ℕ, ◌==◌, [], slice_get, codes, if◌then◌else◌}
use Rattle.std.specs.Option.{option_map_or}
use Rattle.msg_world.specs.declared.record.TheConstants.{HOST}
use Rattle.msg_json.specs.Prelude.{Text}
use Rattle.msg_reading.specs.declared.scenario.Scenario.{Scenario}

-- the name of type t
abbrev pub type_name : Scenario → ℕ → Text
type_name s t = option_map_or (λ named. named.0) (slice_get s.types t) []

-- the name of resource r
abbrev pub resource_name : Scenario → ℕ → Text
resource_name s r = option_map_or (λ named. named.0) (slice_get s.resources r) []

-- the name of system i
abbrev pub system_name : Scenario → ℕ → Text
system_name s i = option_map_or (λ system. system.name) (slice_get s.systems i) []

-- who wrote a message: a system, or the host
abbrev pub writer_name : Scenario → ℕ → Text
writer_name s writer = if writer == HOST then codes "host" else system_name s writer
