-- The read that a frame told last: the words of private functions.
use Rattle.std.specs.Prelude.{◌≡◌, ◌++◌, ⊤, Option, Some, None, length}
use Rattle.msg_system.specs.declared.reply.Reply.TheVariants as reply
use Rattle.msg_json.specs.Prelude.{Text}
use Rattle.msg_reading.specs.declared.scenario.Scenario.{Scenario}
use Rattle.msg_scenario.specs.{declared.reports.last_read.LastRead.LastRead, ReportText.reply_text}

-- what it took stands in the text, from where it says to where it says
abbrev pub IsInText : Scenario → Option LastRead → Text → Type 0
IsInText s None text = ⊤
IsInText s (Some read) text =
    (before : Text) × (after : Text)
    × (text ≡ before ++ reply_text s (reply.Read read.took.now) ++ after)
    × (length before ≡ read.start)
    × (length (before ++ reply_text s (reply.Read read.took.now)) ≡ read.end)
