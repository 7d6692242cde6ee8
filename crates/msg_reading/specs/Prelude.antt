-- Hands on the definitions cited elsewhere. The declared type serves this crate's proofs alone.
pub use Rattle.msg_reading.specs.Names.{is_name, is_name_character}
pub use Rattle.msg_reading.specs.NamesOf.{resource_name, system_name, type_name, writer_name}
pub use Rattle.msg_reading.specs.Runnable.{IsRunnable, IsRunnableSystem, PostsAreToTypes, first_world, fits_kind, meanings_of, places_of, state_of}
pub use Rattle.msg_reading.specs.declared.scenario.SystemSpec.{SystemSpec}
pub use Rattle.msg_reading.specs.Declarations.{Declared, position_of, resource_number, system_number, type_number}
pub use Rattle.msg_reading.specs.Reading.{HasFault, IsLowestClashing, IsReadAs, IsUnfit, NoneClash, unfit}
pub use Rattle.msg_reading.specs.ScenarioFormat.{each_from, each_of, in_not, inside_nots, nots_round, scenario_of}
unfoldable pub use Rattle.msg_reading.specs.ScenarioFormat.{frames_of, held_of, resources_of, rules_of, systems_of, types_of}
