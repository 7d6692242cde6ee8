-- What private functions promise: no public contract cites this file.
use Rattle.std.specs.Prelude.{◌≡◌}
use Rattle.serde_json.specs.Data.{Data}
use Rattle.msg_json.specs.Prelude.{reason_refusal}
use Rattle.msg_json.specs.declared.fault.Fault.{Fault}
use Rattle.msg_json.specs.declared.refusal.Refusal.{Refusal}
use Rattle.msg_json.specs.declared.report_fault.ReportFault.TheVariants as report_fault
use Rattle.msg_scenario.specs.declared.check_fault.CheckFault.{CheckFault}
use Rattle.msg_scenario.specs.declared.check_fault.CheckFault.TheVariants as check_fault
use Rattle.msg_scenario.specs.Checked.{IsFaultOfEither}

-- a file is refused, for a refusal of which this holds; or there was no memory
abbrev pub EndsIf : (Refusal → Type 0) → CheckFault → Type 0
EndsIf Holds (check_fault.Refused why lines) = Holds why
EndsIf Holds (check_fault.Report fault) = fault ≡ report_fault.NoMemory

-- a value is refused for its fault, as the calls file or the scenario that it is to be
abbrev pub IsRefusalOfEither : Data → Refusal → Type 0
IsRefusalOfEither d why = (e : Fault) × IsFaultOfEither d e × (why ≡ reason_refusal e.reason)
