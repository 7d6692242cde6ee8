-- What the check of a file comes to, which runs nothing. What is told of the file is for a person:
-- no clause says more of it than that the sink takes it.
use Rattle.std.specs.Prelude.{◌≡◌, ◌⊎◌, ℕ, true, false, List, [], Ok, Err, Option}
use Rattle.serde_json.specs.Data.{Data}
use Rattle.msg_json.specs.Prelude.{IsJsonOf, IsNotJson, is_calls_file, reason_refusal, AppendsAtLeast, one_failure_more}
use Rattle.msg_json.specs.declared.report_fault.ReportFault.TheVariants as report_fault
use Rattle.msg_calls.specs.Prelude.{file_of}
use Rattle.msg_calls.specs.Cursors.{CallsFile}
use Rattle.msg_json.specs.declared.fault.Fault.{Fault}
use Rattle.msg_json.specs.declared.refusal.Refusal.{Refusal}
use Rattle.msg_json.specs.declared.refusal.Refusal.TheVariants as refusal
use Rattle.msg_reading.specs.Prelude.{HasFault, IsReadAs}
use Rattle.msg_reading.specs.declared.scenario.Scenario.{Scenario}
use Rattle.msg_scenario.specs.declared.check_fault.CheckFault.{CheckFault}
use Rattle.msg_scenario.specs.declared.check_fault.CheckFault.TheVariants as check_fault

-- a value is a calls file or a scenario
abbrev pub IsEither : Data → Type 0
IsEither d =
    ((file : CallsFile) × (file_of d ≡ Ok file)) ⊎ ((scenario : Scenario) × IsReadAs d scenario)

-- the bytes are the text of such a value
abbrev pub Passes : List ℕ → Type 0
Passes bytes = (d : Data) × IsJsonOf bytes d × IsEither d

-- a value has this fault, as the calls file or the scenario that it is to be
abbrev pub IsFaultOfEither : Data → Fault → Type 0
IsFaultOfEither d e =
    ((is_calls_file d ≡ true) × (file_of d ≡ Err e))
    ⊎ ((is_calls_file d ≡ false) × HasFault d e)

-- Bytes are refused for this: they are no JSON text, or they are the text of a value, and this is
-- its fault.
abbrev pub FailsFor : List ℕ → Refusal → Type 0
FailsFor bytes why =
    (IsNotJson bytes × (why ≡ refusal.NotJson))
    ⊎ ((d : Data) × (e : Fault) × IsJsonOf bytes d × IsFaultOfEither d e
    × (why ≡ reason_refusal e.reason))

module _ {S : Type 0} (contents : S → Option (List ℕ)) (failures : S → ℕ) where
  -- What a check leaves that ended in this fault.
  abbrev pub EndsCheck : List ℕ → CheckFault → S → S → Type 0
  -- the bytes are refused, and the sink is as it was
  EndsCheck bytes (check_fault.Refused why lines) old new = FailsFor bytes why × (new ≡ old)
  -- a put failed: the sink took a front of what is told
  EndsCheck bytes (check_fault.Report report_fault.Write) old new =
      Passes bytes × AppendsAtLeast (contents old) (contents new) []
      × (failures new ≡ one_failure_more (failures old))
  -- there was no memory, and the sink is as it was
  EndsCheck bytes (check_fault.Report report_fault.NoMemory) old new = new ≡ old
  -- nothing is run
  EndsCheck bytes (check_fault.Report (report_fault.Run fault)) old new = ⊥
