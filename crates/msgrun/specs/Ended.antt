-- How the program ends.
use Rattle.std.specs.Prelude.{ℕ, Result, Ok, Err}
use Rattle.msg_scenario.specs.declared.answer_fault.AnswerFault.{AnswerFault}
use Rattle.msg_scenario.specs.declared.answer_fault.AnswerFault.TheVariants as answer
use Rattle.msg_scenario.specs.declared.check_fault.CheckFault.{CheckFault}
use Rattle.msg_scenario.specs.declared.check_fault.CheckFault.TheVariants as check
use Rattle.msg_command.specs.Prelude.{status_of}
use Rattle.msg_command.specs.declared.fault.MainFault.{MainFault}
use Rattle.msg_command.specs.declared.fault.MainFault.TheVariants as main
use Rattle.msg_command.specs.declared.input.InputFault.TheVariants as input

-- the fault that ends the program, by why a file wasn't answered to its end
abbrev pub main_fault : AnswerFault → MainFault
main_fault (answer.Refused why) = main.Refused why
main_fault answer.NoMemory = main.Built
main_fault (answer.Report fault) = main.Report fault
main_fault answer.Input = main.Input input.Failed

-- the same, by why a file that was checked doesn't pass
abbrev pub main_fault_of_check : CheckFault → MainFault
main_fault_of_check (check.Refused why lines) = main.CheckFailed why lines
main_fault_of_check (check.Report fault) = main.Report fault

-- the status that the program ends with
abbrev pub status_after : Result (Unit {0}) MainFault → ℕ
status_after (Ok u) = 0
status_after (Err fault) = status_of fault
