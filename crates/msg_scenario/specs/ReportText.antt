-- The text that a scenario prints: frame by frame what the host's posts and the systems' ops were
-- answered, and at the end what each reader got.
use Rattle.std.specs.Prelude.{ℕ, ℤ, ◌+◌, ◌==◌, List, [], ◌∷◌, ◌++◌, Option, Some, None, length, slice_get, zip, flat_map, codes, decimal, nat_lt, if◌then◌else◌}
use Rattle.std.specs.{Fmt.signed_decimal, List.enumerate_from, Option.option_map_or}
use Rattle.msg_buffer.specs.declared.instance.Written.{Written}
use Rattle.msg_world.specs.{Prelude.i64_values, declared.record.Record.Record}
use Rattle.msg_system.specs.{declared.op.Op.Op, declared.reply.Took.Took, declared.reply.Reply.Reply}
use Rattle.msg_system.specs.declared.op.Op.TheVariants as op
use Rattle.msg_system.specs.declared.reply.Reply.TheVariants as reply
use Rattle.msg_frames.specs.{Prelude.State, Prelude.accounts_of, Prelude.backlog_of, Prelude.writer_accounts_of, declared.account.Account.Account, declared.backlog.Backlog.Backlog, declared.frame.Frame.Frame, declared.log.Log.Log, declared.log.Turn.Turn, declared.writer_account.WriterAccount.WriterAccount}
use Rattle.msg_frames.specs.declared.log.Outcome.{Outcome}
use Rattle.msg_frames.specs.declared.log.Outcome.TheVariants.{Ran, Skipped}
use Rattle.msg_json.specs.Prelude.{Text}
use Rattle.msg_reading.specs.Prelude.{resource_name, system_name, type_name, writer_name}
use Rattle.msg_reading.specs.{declared.scenario.Scenario.Scenario, declared.scenario.SystemSpec.SystemSpec}
use Rattle.msg_scenario.specs.declared.reports.accounts.Readers.{Readers}
use Rattle.msg_scenario.specs.declared.reports.accounts.Readers.TheVariants.{Plain, WithLosses}

-- ---- parts of a line

-- NUMBER=VALUE@WRITER
abbrev pub item_text : Scenario → ℕ → Record ℤ → Text
item_text s number m =
    decimal number ++ codes "=" ++ signed_decimal m.value ++ codes "@" ++ writer_name s m.writer

-- the same with a space in front
abbrev pub next_item : Scenario → ℕ × Record ℤ → Text
next_item s m = codes " " ++ item_text s m.0 m.1

-- messages numbered from here on, each with a space in front
abbrev pub more_items : Scenario → ℕ → List (Record ℤ) → Text
more_items s first ms = flat_map (next_item s) (enumerate_from first ms)

-- messages numbered from here on, with a space between two, or `none`
abbrev pub items_text : Scenario → ℕ → List (Record ℤ) → Text
items_text s first [] = codes "none"
items_text s first (m ∷ ms) = item_text s first m ++ more_items s (first + 1) ms

-- what a read took
abbrev pub took_text : Scenario → Took ℤ → Text
took_text s took =
    codes "missed " ++ decimal took.missed ++ codes ": " ++ items_text s took.first took.items

-- the numbers that were written, FIRST+NUMBER
abbrev pub numbers_text : Written → Text
numbers_text numbers = decimal numbers.first ++ codes "+" ++ decimal numbers.n

-- the same, or `spent` if there was no room for them
abbrev pub written_text : Option Written → Text
written_text None = codes "spent"
written_text (Some numbers) = numbers_text numbers

-- an op by its head, and by what it works on
abbrev pub op_text : Scenario → Op ℤ → Text
op_text s (op.Write t value) = codes "write " ++ type_name s t
op_text s (op.Batch t values) = codes "batch " ++ type_name s t
op_text s (op.Read t limit) = codes "read " ++ type_name s t
op_text s (op.Len t) = codes "len " ++ type_name s t
op_text s (op.Missed t) = codes "missed " ++ type_name s t
op_text s (op.Clear t) = codes "clear " ++ type_name s t
op_text s (op.Forward t u) = codes "forward " ++ type_name s t ++ codes " " ++ type_name s u
op_text s (op.Sum t r) = codes "sum " ++ type_name s t ++ codes " " ++ resource_name s r
op_text s (op.Get r) = codes "get " ++ resource_name s r
op_text s (op.Set r value) = codes "set " ++ resource_name s r
op_text s (op.Add r value) = codes "add " ++ resource_name s r
op_text s (op.Drain t) = codes "drain " ++ type_name s t
op_text s op.Signal = codes "signal"

-- what it was answered, as that follows it on the line
abbrev pub reply_text : Scenario → Reply ℤ → Text
reply_text s (reply.Wrote numbers) = codes " " ++ numbers_text numbers
reply_text s reply.Spent = codes " spent"
reply_text s (reply.Read took) = codes " " ++ took_text s took
reply_text s (reply.Len n) = codes " " ++ decimal n
reply_text s (reply.Missed n) = codes " " ++ decimal n
reply_text s (reply.Cleared missed first n) =
    codes " missed " ++ decimal missed ++ codes " cleared " ++ decimal n
reply_text s (reply.Forwarded took wrote) =
    codes " " ++ took_text s took ++ codes "; " ++ written_text wrote
reply_text s (reply.Summed took value) =
    codes " " ++ took_text s took ++ codes "; " ++ signed_decimal value
reply_text s (reply.Value value) = codes " " ++ signed_decimal value
reply_text s (reply.Drained first items) = codes ": " ++ items_text s first items
reply_text s reply.Signalled = []
reply_text s (reply.Outside op) = codes " outside"
reply_text s (reply.Full op) = codes " full"

-- ---- the lines of a frame

-- a line: how it begins, what was answered, and a line feed
abbrev pub answered_line : Scenario → Text → Reply ℤ → Text
answered_line s start answer = start ++ reply_text s answer ++ codes "\n"

-- the line of a post of the host to a type
abbrev pub post_line : Scenario → ℕ → Reply ℤ → Text
post_line s t answer = answered_line s (codes "host post " ++ type_name s t) answer

-- a line for each post
abbrev pub posts_text : Scenario → List (ℕ × ℤ) → List (Reply ℤ) → Text
posts_text s posts answers = flat_map (λ p. post_line s p.0.0 p.1) (zip posts answers)

-- how the line of an op begins, of the system with this name
abbrev pub op_start : Scenario → Text → Op ℤ → Text
op_start s name this = name ++ codes " " ++ op_text s this

-- a line for each op of the system with this name
abbrev pub ops_text : Scenario → Text → List (Op ℤ) → List (Reply ℤ) → Text
ops_text s name ops answers =
    flat_map (λ p. answered_line s (op_start s name p.0) p.1) (zip ops answers)

-- what came of a system's turn
abbrev pub outcome_text : Scenario → SystemSpec → Outcome ℤ → Text
outcome_text s system Skipped = system.name ++ codes " skipped\n"
outcome_text s system (Ran answers) = ops_text s system.name system.program.ops answers

-- a turn; one of a system that the scenario hasn't got prints nothing
abbrev pub turn_text : Scenario → Turn ℤ → Text
turn_text s turn =
    option_map_or (λ system. outcome_text s system turn.outcome)
    (slice_get s.systems turn.system) []

-- the text of a frame: its number, the posts, and the turns
abbrev pub frame_text : Scenario → ℕ → Frame ℤ → Log ℤ → Text
frame_text s number frame log =
    codes "frame " ++ decimal number ++ codes "\n" ++ posts_text s frame.posts log.posts
    ++ flat_map (turn_text s) log.turns

-- ---- the lines of the readers

-- where a reader stands, if it has joined
abbrev pub standing_text : Account → Option ℕ → Text
standing_text a None = codes " waiting"
standing_text a (Some start) =
    codes " start " ++ decimal start ++ codes " got " ++ decimal a.got
    ++ codes " missed " ++ decimal a.missed ++ codes " cleared " ++ decimal a.cleared
    ++ codes " place " ++ decimal a.place

-- how many messages past its place were dropped, and how many are kept, if that is told
abbrev pub left_text : Option Backlog → Text
left_text None = []
left_text (Some left) =
    codes " lost " ++ decimal left.lost ++ codes " unread " ++ decimal left.unread

-- what there is to tell of that; of a type that there isn't, nothing
abbrev pub left_of : Readers → State i64_values → Account → Option Backlog
left_of Plain now a = None
left_of WithLosses now a = if nat_lt a.of_type now.types then Some (backlog_of now a) else None

-- the line of a reader
abbrev pub account_line : Scenario → Account → Option Backlog → Text
account_line s a left =
    codes "reader " ++ system_name s a.system ++ codes " " ++ type_name s a.of_type
    ++ standing_text a a.start ++ left_text left ++ codes "\n"

-- a line for each of these readers
abbrev pub accounts_text : Scenario → Readers → State i64_values → List Account → Text
accounts_text s how now accounts = flat_map (λ a. account_line s a (left_of how now a)) accounts

-- the writers that are told beside the readers
abbrev pub told_writers : Readers → State i64_values → List WriterAccount
told_writers Plain now = []
told_writers WithLosses now = writer_accounts_of now

-- the line of a writer
abbrev pub writer_line : Scenario → WriterAccount → Text
writer_line s a =
    codes "writer " ++ system_name s a.system ++ codes " " ++ type_name s a.of_type
    ++ codes " refused " ++ decimal a.refused ++ codes "\n"

-- a line for each of these writers
abbrev pub writers_text : Scenario → List WriterAccount → Text
writers_text s writers = flat_map (writer_line s) writers

-- a line for each reader, and for each writer that is told
abbrev pub readers_text : Scenario → Readers → State i64_values → Text
readers_text s how now =
    accounts_text s how now (accounts_of now) ++ writers_text s (told_writers how now)

-- ---- the whole

-- frames one after another, numbered from here on
abbrev pub frames_text : Scenario → ℕ → List (Frame ℤ) → List (Log ℤ) → Text
frames_text s number frames logs =
    flat_map (λ f. frame_text s f.0 f.1.0 f.1.1) (enumerate_from number (zip frames logs))

-- the text of a scenario whose frames had these logs, and whose readers these lines at the end
abbrev pub report_text : Scenario → List (Log ℤ) → Text → Text
report_text s logs readers = frames_text s 1 s.frames logs ++ readers

-- the text of the frames that had these logs; and the readers' lines too, if these are all
-- frames
abbrev pub text_so_far : Scenario → List (Log ℤ) → Text → Text
text_so_far s logs readers =
    if length logs == length s.frames then report_text s logs readers
    else frames_text s 1 s.frames logs
