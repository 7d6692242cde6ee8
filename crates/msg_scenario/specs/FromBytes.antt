-- From the bytes of a file to what is answered.
use Rattle.std.specs.Prelude.{◌≡◌, ◌≢◌, ◌⊎◌, ℕ, List, Ok, Option, Some}
use Rattle.serde_json.specs.Data.{Data}
use Rattle.msg_json.specs.Prelude.{IsJsonOf, IsNotJson, IsRefusedFor, AppendsPrefix, Text, one_failure_more}
use Rattle.msg_json.specs.declared.fault.Fault.{Fault}
use Rattle.msg_json.specs.declared.refusal.Refusal.{Refusal}
use Rattle.msg_json.specs.declared.refusal.Refusal.TheVariants as refusal
use Rattle.msg_json.specs.declared.report_fault.ReportFault.{ReportFault}
use Rattle.msg_json.specs.declared.report_fault.ReportFault.TheVariants as report_fault
use Rattle.msg_calls.specs.Prelude.{file_of}
use Rattle.msg_calls.specs.declared.calls.Calls.{Calls}
use Rattle.msg_reading.specs.Prelude.{IsReadAs}
use Rattle.msg_scenario.specs.Prelude.{IsReported}
use Rattle.msg_reading.specs.declared.scenario.Scenario.{Scenario}
use Rattle.msg_scenario.specs.declared.reports.accounts.Readers.{Readers}

-- The bytes are a scenario file, and this holds of its scenario.
pub record IsOfScenario (bytes : List ℕ) (Holds : Scenario → Type 0) : Type 0 where
  pub value : Data
  pub json : IsJsonOf bytes value
  pub scenario : Scenario
  pub read : IsReadAs value scenario
  pub holds : Holds scenario

-- The bytes are a calls file, and this holds of its calls.
pub record AreOfCalls (bytes : List ℕ) (Holds : Calls → Type 0) : Type 0 where
  pub value : Data
  pub json : IsJsonOf bytes value
  pub calls : Calls
  pub read : file_of value ≡ Ok calls
  pub holds : Holds calls

module _ {S : Type 0} (contents : S → Option (List ℕ)) (failures : S → ℕ) (text : Text) where
  -- What a text leaves whose puts ended in this fault.
  pub record EndsText (fault : ReportFault) (old new : S) : Type 0 where
    -- the sink took a front of it
    pub prefix : AppendsPrefix (contents old) (contents new) text
    -- one put failed if the fault says so; else none did, and there was no memory
    pub ended : ((fault ≡ report_fault.Write) × (failures new ≡ one_failure_more (failures old)))
        ⊎ ((fault ≡ report_fault.NoMemory) × (failures new ≡ failures old))

-- The bytes are refused for this, if it is told which faults a value has: they are no JSON text, or
-- they are the text of a value with such a fault; or memory was refused.
abbrev pub IsRefusedFile : (Data → Fault → Type 0) → List ℕ → Refusal → Type 0
IsRefusedFile has bytes why = (why ≡ refusal.NotJson → IsNotJson bytes)
    × (why ≢ refusal.NotJson → why ≢ refusal.NoMemory
    → (d : Data) × IsJsonOf bytes d × IsRefusedFor (has d) why)

-- A scenario file has one report of each kind, whoever runs it, on however many workers.
abbrev pub EachFileHasOneReport : Type 0
EachFileHasOneReport = (how : Readers) (bytes before one other : List ℕ)
    → IsOfScenario bytes (λ scenario. IsReported how scenario (Some before) (Some one))
    → IsOfScenario bytes (λ scenario. IsReported how scenario (Some before) (Some other))
    → one ≡ other
