-- The line that each fault of the program prints, and the status that it ends with.
use Rattle.std.specs.Prelude.{ℕ, List, [], ◌++◌, codes}
use Rattle.msg_command.specs.declared.fault.MainFault.{MainFault}
use Rattle.msg_command.specs.declared.fault.MainFault.TheVariants.{Words, Input, Refused, CheckFailed, Built, Report}
use Rattle.msg_command.specs.declared.words.WordFault.TheVariants as word
use Rattle.msg_command.specs.declared.input.InputFault.TheVariants as input
use Rattle.msg_json.specs.declared.refusal.Refusal.{Refusal}
use Rattle.msg_json.specs.declared.refusal.Refusal.TheVariants as refusal
use Rattle.msg_world.specs.declared.run_fault.RunFault.TheVariants as run
use Rattle.msg_json.specs.declared.report_fault.ReportFault.TheVariants as report

-- the line of a refusal: its number and name, but for want of memory
abbrev pub refusal_line : Refusal → List ℕ
refusal_line refusal.NotJson = codes "msgrun: refused 1 NotJson\n"
refusal_line refusal.Shape = codes "msgrun: refused 2 Shape\n"
refusal_line refusal.UnknownKey = codes "msgrun: refused 3 UnknownKey\n"
refusal_line refusal.BadName = codes "msgrun: refused 4 BadName\n"
refusal_line refusal.TwiceNamed = codes "msgrun: refused 5 TwiceNamed\n"
refusal_line refusal.BadNumber = codes "msgrun: refused 6 BadNumber\n"
refusal_line refusal.TooMany = codes "msgrun: refused 7 TooMany\n"
refusal_line refusal.UnknownName = codes "msgrun: refused 8 UnknownName\n"
refusal_line (refusal.Clash system) = codes "msgrun: refused 9 Clash\n"
refusal_line (refusal.Cycle system) = codes "msgrun: refused 10 Cycle\n"
refusal_line refusal.NoMemory = codes "msgrun: want of memory\n"

-- the line of a fault. A run fault has its number and name there. Help is no fault, and its line is
-- empty.
abbrev pub line_of : MainFault → List ℕ
line_of (Words word.Bad) = codes "msgrun: bad command line\n"
line_of (Words (word.Help text)) = []
line_of (Words word.NoMemory) = codes "msgrun: want of memory\n"
line_of (Input input.Failed) = codes "msgrun: cannot read input\n"
line_of (Input input.TooLarge) = codes "msgrun: input too large\n"
line_of (Input input.NoMemory) = codes "msgrun: want of memory\n"
line_of (Refused refused) = refusal_line refused
line_of (CheckFailed why lines) = refusal_line why
line_of Built = codes "msgrun: want of memory\n"
line_of (Report (report.Run run.Spoiled)) = codes "msgrun: run fault 1 Spoiled\n"
line_of (Report (report.Run run.BadOrder)) = codes "msgrun: run fault 2 BadOrder\n"
line_of (Report (report.Run run.NoMemory)) = codes "msgrun: run fault 3 NoMemory\n"
line_of (Report report.Write) = codes "msgrun: write fault\n"
line_of (Report report.NoMemory) = codes "msgrun: want of memory\n"

-- what is printed of a fault: its line, and below it the lines that tell of a refused file
abbrev pub lines_of : MainFault → List ℕ
lines_of (CheckFailed why lines) = refusal_line why ++ lines.items
lines_of fault = line_of fault

-- the status that the program ends with: 0 for help; 2 for a bad command line, too large an input
-- or a refused file; 1 for a fault while running, reading or writing, and for want of memory
abbrev pub status_of : MainFault → ℕ
status_of (Words (word.Help text)) = 0
status_of (Words word.Bad) = 2
status_of (Input input.TooLarge) = 2
status_of (Refused refusal.NoMemory) = 1
status_of (Refused refused) = 2
status_of (CheckFailed why lines) = 2
status_of _ = 1
