-- What the lines of turns begin with, made once: the words of private functions.
use Rattle.std.specs.Prelude.{◌≡◌, ◌++◌, List, [], codes, flat_map, map, slice_get, zip, ℤ}
use Rattle.std.specs.Option.{option_map_or}
use Rattle.msg_json.specs.Prelude.{Text}
use Rattle.msg_frames.specs.declared.log.{Outcome.Outcome, Turn.Turn}
use Rattle.msg_frames.specs.declared.log.Outcome.TheVariants.{Ran, Skipped}
use Rattle.msg_reading.specs.{declared.scenario.Scenario.Scenario, declared.scenario.SystemSpec.SystemSpec}
use Rattle.msg_scenario.specs.{declared.reports.lines.SystemLines.SystemLines, ReportText.answered_line, ReportText.op_start}

-- the line of a turn that a system skips, and how the line of each of its ops begins
abbrev pub lines_of : Scenario → SystemSpec → Text × List Text
lines_of s system =
    (system.name ++ codes " skipped\n", map (op_start s system.name) system.program.ops)

-- the texts that were made of a system
abbrev pub texts_in : SystemLines → Text × List Text
texts_in lines = (lines.skipped.items, map (λ start. start.items) lines.starts.items)

-- they are those of the systems of the scenario
abbrev pub AreLines : Scenario → List SystemLines → Type 0
AreLines s lines = map texts_in lines ≡ map (lines_of s) s.systems

-- what came of a system's turn, by what was made of the system
abbrev pub finished_outcome : Scenario → SystemLines → Outcome ℤ → Text
finished_outcome s lines Skipped = lines.skipped.items
finished_outcome s lines (Ran answers) =
    flat_map (λ p. answered_line s p.0.items p.1) (zip lines.starts.items answers)

-- a turn likewise
abbrev pub finished_turn : Scenario → List SystemLines → Turn ℤ → Text
finished_turn s lines turn =
    option_map_or (λ l. finished_outcome s l turn.outcome) (slice_get lines turn.system) []
