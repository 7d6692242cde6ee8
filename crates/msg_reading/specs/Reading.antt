-- What a scenario file is read as, and what it is refused for.
use Rattle.std.specs.Prelude.{◌≡◌, ◌⊎◌, ℕ, All, List, Some, Ok, Err, slice_get, take}
use Rattle.serde_json.specs.Data.{Data}
use Rattle.msg_order.specs.Prelude.{IsAcyclic, IsLowestOnCycle, edges_of}
use Rattle.msg_system.specs.Prelude.{HasClash, program_needs}
use Rattle.msg_json.specs.Prelude.{fault, here}
use Rattle.msg_json.specs.declared.fault.Fault.{Fault}
use Rattle.msg_json.specs.declared.location.Key.TheVariants as key
use Rattle.msg_json.specs.declared.reason.Reason.{Reason}
use Rattle.msg_json.specs.declared.reason.Reason.TheVariants as reason
use Rattle.msg_reading.specs.ScenarioFormat.{scenario_of}
use Rattle.msg_reading.specs.{declared.scenario.Scenario.Scenario, declared.scenario.SystemSpec.SystemSpec}

-- no program of these systems reads and writes one type
abbrev pub NoneClash : List SystemSpec → Type 0
NoneClash systems = All (λ x. ¬ HasClash (program_needs x.program.ops)) systems

-- s is the lowest system whose program reads and writes one type
pub record IsLowestClashing (systems : List SystemSpec) (s : ℕ) : Type 0 where
  pub system : SystemSpec
  pub is : slice_get systems s ≡ Some system
  pub clash : HasClash (program_needs system.program.ops)
  pub lowest : NoneClash (take s systems)

-- the value is read as a scenario whose programs don't clash, and whose rules make no cycle
pub record IsReadAs (d : Data) (scenario : Scenario) : Type 0 where
  pub denotes : scenario_of d ≡ Ok scenario
  pub no_clash : NoneClash scenario.systems
  pub acyclic : IsAcyclic (edges_of scenario.rules)

-- a clash of a system is a fault of that system, and a cycle one of the rules
abbrev pub unfit : Reason → Fault
unfit (reason.Clash s) = record {
  reason = reason.Clash s;
  location = record here { section = Some key.Systems; element = Some s };
}
unfit (reason.Cycle s) = record {
  reason = reason.Cycle s;
  location = record here { section = Some key.Rules };
}
unfit why = fault why

-- A scenario is refused for its lowest clash; or, if no program clashes, for the lowest system on
-- a cycle of rules.
abbrev pub IsUnfit : Scenario → Reason → Type 0
IsUnfit scenario (reason.Clash s) = IsLowestClashing scenario.systems s
IsUnfit scenario (reason.Cycle s) =
    NoneClash scenario.systems × IsLowestOnCycle (edges_of scenario.rules) s
IsUnfit scenario _ = ⊥

-- a value has this fault: its first one as it is read, or else that of the scenario that it is
abbrev pub HasFault : Data → Fault → Type 0
HasFault d e = (scenario_of d ≡ Err e)
    ⊎ ((scenario : Scenario) × (scenario_of d ≡ Ok scenario) × (e ≡ unfit e.reason)
    × IsUnfit scenario e.reason)
