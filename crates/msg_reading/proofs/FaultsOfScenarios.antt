-- The faults of a scenario.
use Rattle.std.proofs.Common.{◌≡◌, ◌⊎◌, ℕ, refl, inr, Ok}
use Rattle.serde_json.specs.Data.{Data}
use Rattle.msg_order.specs.Prelude.{IsLowestOnCycle, edges_of}
use Rattle.msg_json.specs.declared.fault.Fault.{Fault}
use Rattle.msg_json.specs.declared.reason.Reason.TheVariants as reason
use Rattle.msg_reading.specs.declared.scenario.Scenario.{Scenario}
use Rattle.msg_reading.specs.Prelude.{HasFault, NoneClash, scenario_of, unfit}

-- rules that make a cycle are the fault of a scenario in which no program clashes
pub cycle_is_fault : (d : Data) (scenario : Scenario) (e : Fault) → scenario_of d ≡ Ok scenario
    → NoneClash scenario.systems
    → (s : ℕ) × (e ≡ unfit (reason.Cycle s)) × IsLowestOnCycle (edges_of scenario.rules) s
    → (e.reason ≡ reason.NoMemory) ⊎ HasFault d e
cycle_is_fault d scenario e reads none h = rw h.1 (inr (inr (scenario, reads, refl, (none, h.2))))
