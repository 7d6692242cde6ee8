-- What a frame came to, and what its readers were given, as lines of JSON. Names have no character
-- that JSON writes in another way.
use Rattle.std.specs.Prelude.{ℕ, zero, suc, nat_lt, ℤ, List, [], ◌++◌, Option, Some, None, length, slice_get, zip, flat_map, codes, decimal, if◌then◌else◌}
use Rattle.std.specs.{Fmt.signed_decimal, List.enumerate_from, Option.option_map_or}
use Rattle.msg_buffer.specs.{Prelude.History, Prelude.count, Prelude.oldest, declared.instance.Written.Written}
use Rattle.msg_world.specs.{Prelude.WorldState, Prelude.i64_values, declared.record.Record.Record}
use Rattle.msg_system.specs.{declared.op.Op.Op, declared.reply.Took.Took, declared.reply.Reply.Reply}
use Rattle.msg_system.specs.declared.op.Op.TheVariants as op
use Rattle.msg_system.specs.declared.reply.Reply.TheVariants as reply
use Rattle.msg_frames.specs.{Prelude.State, Prelude.backlog_of, declared.account.Account.Account, declared.backlog.Backlog.Backlog, declared.frame.Frame.Frame, declared.log.Log.Log, declared.log.Turn.Turn, declared.writer_account.WriterAccount.WriterAccount}
use Rattle.msg_frames.specs.declared.log.Outcome.{Outcome}
use Rattle.msg_frames.specs.declared.log.Outcome.TheVariants.{Ran, Skipped}
use Rattle.msg_json.specs.Prelude.{Text}
use Rattle.msg_reading.specs.Prelude.{resource_name, system_name, type_name, writer_name}
use Rattle.msg_reading.specs.{declared.scenario.Scenario.Scenario, declared.scenario.SystemSpec.SystemSpec}

-- ---- lists

-- the comma before element k of a list; there is none before the first
abbrev pub comma_before : ℕ → Text
comma_before zero = []
comma_before (suc k) = codes ","

-- an element beside its number, after its comma
abbrev pub list_item : {X : Type 0} → (ℕ × X → Text) → ℕ × X → Text
list_item f x = comma_before x.0 ++ f x

-- the elements of a list, each told by its number too, with a comma between two
unfoldable pub numbered : {X : Type 0} → (ℕ × X → Text) → List X → Text
numbered f xs = flat_map (list_item f) (enumerate_from 0 xs)

-- the elements of a list, with a comma between two
abbrev pub listed : {X : Type 0} → (X → Text) → List X → Text
listed f xs = numbered (λ x. f x.1) xs

-- ---- replies, each member with a comma in front

-- the numbers that were written
abbrev pub numbers_json : Written → Text
numbers_json numbers =
    codes ",\"first\":" ++ decimal numbers.first ++ codes ",\"n\":" ++ decimal numbers.n

-- there was no room for what was to be written
abbrev pub spent_json : Text
spent_json = codes ",\"spent\":true"

-- a message: its value and its writer
abbrev pub message_json : Scenario → Record ℤ → Text
message_json s m =
    codes "[" ++ signed_decimal m.value ++ codes ",\"" ++ writer_name s m.writer ++ codes "\"]"

-- messages, of which the first has this number
abbrev pub items_json : Scenario → ℕ → List (Record ℤ) → Text
items_json s first items =
    codes ",\"first\":" ++ decimal first ++ codes ",\"items\":["
    ++ listed (message_json s) items ++ codes "]"

-- what a read took
abbrev pub took_json : Scenario → Took ℤ → Text
took_json s took =
    codes ",\"missed\":" ++ decimal took.missed ++ items_json s took.first took.items

-- what was written of what was read
abbrev pub wrote_json : Option Written → Text
wrote_json None = spent_json
wrote_json (Some numbers) =
    codes ",\"wrote\":{" ++ (codes "\"first\":" ++ decimal numbers.first)
    ++ (codes ",\"n\":" ++ decimal numbers.n) ++ codes "}"

-- a value
abbrev pub value_json : ℤ → Text
value_json value = codes ",\"value\":" ++ signed_decimal value

-- what an op was answered
abbrev pub reply_json : Scenario → Reply ℤ → Text
reply_json s (reply.Wrote numbers) = numbers_json numbers
reply_json s reply.Spent = spent_json
reply_json s (reply.Read took) = took_json s took
reply_json s (reply.Len n) = codes ",\"n\":" ++ decimal n
reply_json s (reply.Missed n) = codes ",\"n\":" ++ decimal n
reply_json s (reply.Cleared missed first n) =
    codes ",\"missed\":" ++ decimal missed ++ codes ",\"first\":" ++ decimal first
    ++ codes ",\"n\":" ++ decimal n
reply_json s (reply.Forwarded took wrote) = took_json s took ++ wrote_json wrote
reply_json s (reply.Summed took value) = took_json s took ++ value_json value
reply_json s (reply.Value value) = value_json value
reply_json s (reply.Drained first items) = items_json s first items
reply_json s reply.Signalled = []
reply_json s (reply.Outside op) = codes ",\"cut\":\"outside\""
reply_json s (reply.Full op) = codes ",\"cut\":\"full\""

-- ---- turns

-- the type that an op works on; without the last quote
unfoldable pub of_type : Scenario → ℕ → Text
of_type s t = codes "\",\"type\":\"" ++ type_name s t

-- a resource likewise
unfoldable pub of_resource : Scenario → ℕ → Text
of_resource s r = codes "\",\"resource\":\"" ++ resource_name s r

-- an op by its head, and by what it works on; without the last quote
abbrev pub op_json : Scenario → Op ℤ → Text
op_json s (op.Write t value) = codes "write" ++ of_type s t
op_json s (op.Batch t values) = codes "batch" ++ of_type s t
op_json s (op.Read t limit) = codes "read" ++ of_type s t
op_json s (op.Len t) = codes "len" ++ of_type s t
op_json s (op.Missed t) = codes "missed" ++ of_type s t
op_json s (op.Clear t) = codes "clear" ++ of_type s t
op_json s (op.Forward t u) =
    codes "forward" ++ of_type s t ++ codes "\",\"to\":\"" ++ type_name s u
op_json s (op.Sum t r) = codes "sum" ++ of_type s t ++ of_resource s r
op_json s (op.Get r) = codes "get" ++ of_resource s r
op_json s (op.Set r value) = codes "set" ++ of_resource s r
op_json s (op.Add r value) = codes "add" ++ of_resource s r
op_json s (op.Drain t) = codes "drain" ++ of_type s t
op_json s op.Signal = codes "signal"

-- an op, and what it was answered
abbrev pub answer_json : Scenario → Op ℤ × Reply ℤ → Text
answer_json s p =
    codes "{\"op\":\"" ++ op_json s p.0 ++ codes "\"" ++ reply_json s p.1 ++ codes "}"

-- what the ops of a system were answered
abbrev pub replies_json : Scenario → SystemSpec → List (Reply ℤ) → Text
replies_json s system answers =
    codes ",\"replies\":[" ++ listed (answer_json s) (zip system.program.ops answers) ++ codes "]"

-- what came of a system's turn
abbrev pub outcome_json : Scenario → SystemSpec → Outcome ℤ → Text
outcome_json s system Skipped = codes ",\"skipped\":true"
outcome_json s system (Ran answers) = replies_json s system answers

-- the same by the system's number; nothing of a system that the scenario hasn't got
abbrev pub outcome_json_of : Scenario → Turn ℤ → Text
outcome_json_of s turn =
    option_map_or (λ system. outcome_json s system turn.outcome) (slice_get s.systems turn.system)
    []

-- a turn
abbrev pub turn_json : Scenario → Turn ℤ → Text
turn_json s turn =
    codes "{\"system\":\"" ++ system_name s turn.system ++ codes "\"" ++ outcome_json_of s turn
    ++ codes "}"

-- ---- a frame

-- what a post to a type was answered
abbrev pub posted_json : Scenario → ℕ → Reply ℤ → Text
posted_json s t answer =
    codes "{\"type\":\"" ++ type_name s t ++ codes "\"" ++ reply_json s answer ++ codes "}"

-- a post, and what it was answered
abbrev pub post_json : Scenario → (ℕ × ℤ) × Reply ℤ → Text
post_json s p = posted_json s p.0.0 p.1

-- a type by its name: the number of the oldest message that is kept, and how many were written
unfoldable pub kept_json : Text → ℕ → ℕ → Text
kept_json name first written =
    codes "\"" ++ name ++ codes "\":{\"oldest\":" ++ decimal first
    ++ codes ",\"written\":" ++ decimal written ++ codes "}"

-- the same by its history
abbrev pub type_json : Text → History (Record ℤ) → Text
type_json name h = kept_json name (oldest h) (count h)

-- a resource by its name: its value
abbrev pub resource_json : Text → ℤ → Text
resource_json name value = codes "\"" ++ name ++ codes "\":" ++ signed_decimal value

-- all types
abbrev pub types_json : Scenario → WorldState i64_values → Text
types_json s w =
    codes ",\"types\":{" ++ numbered (λ x. type_json x.1.0 (w.histories x.0)) s.types ++ codes "}"

-- all resources
abbrev pub resources_json : Scenario → WorldState i64_values → Text
resources_json s w =
    codes ",\"resources\":{" ++ numbered (λ x. resource_json x.1.0 (w.resources x.0)) s.resources
    ++ codes "}"

-- what happened in a frame: the posts and the turns
unfoldable pub happened_json : Scenario → Frame ℤ → Log ℤ → Text
happened_json s frame log =
    codes ",\"posts\":[" ++ listed (post_json s) (zip frame.posts log.posts)
    ++ codes "]" ++ codes ",\"turns\":[" ++ listed (turn_json s) log.turns ++ codes "]"

-- the line of a frame: its number, what happened, and what it left
abbrev pub frame_line : Scenario → ℕ → Frame ℤ → Log ℤ → WorldState i64_values → Text
frame_line s number frame log w =
    codes "{\"frame\":" ++ decimal number ++ happened_json s frame log ++ types_json s w
    ++ resources_json s w ++ codes "}\n"

-- ---- readers

-- where a reader stands, if it has joined
unfoldable pub standing_json : Account → Option ℕ → Text
standing_json a None = codes ",\"waiting\":true"
standing_json a (Some start) =
    codes ",\"start\":" ++ decimal start ++ codes ",\"got\":" ++ decimal a.got
    ++ codes ",\"missed\":" ++ decimal a.missed ++ codes ",\"cleared\":" ++ decimal a.cleared
    ++ codes ",\"place\":" ++ decimal a.place

-- what there is past a reader's place, of so many messages that were ever written: how many were
-- dropped, and how many are kept
abbrev pub past_json : Backlog → ℕ → Text
past_json left written =
    codes ",\"lost\":" ++ decimal left.lost ++ codes ",\"unread\":" ++ decimal left.unread
    ++ codes ",\"written\":" ++ decimal written

-- the same by an account; nothing of a type that isn't among so many
abbrev pub rest_json : ℕ → State i64_values → Account → Text
rest_json types now a =
    if nat_lt a.of_type types
    then past_json (backlog_of now a) (count (now.world.histories a.of_type)) else []

-- a system, and a type that it reads or writes
unfoldable pub use_json : Scenario → ℕ → ℕ → Text
use_json s i t =
    codes "{\"system\":\"" ++ system_name s i ++ codes "\",\"type\":\"" ++ type_name s t
    ++ codes "\""

-- a reader
abbrev pub account_json : Scenario → State i64_values → Account → Text
account_json s now a =
    use_json s a.system a.of_type ++ standing_json a a.start ++ rest_json (length s.types) now a
    ++ codes "}"

-- what a system that writes a type was refused of it
abbrev pub writer_json : Scenario → WriterAccount → Text
writer_json s a =
    use_json s a.system a.of_type ++ (codes ",\"refused\":" ++ decimal a.refused) ++ codes "}"

-- the line of the readers, and of the writers
abbrev pub readers_line : Scenario → List Account → List WriterAccount → State i64_values → Text
readers_line s accounts writers now =
    codes "{\"readers\":[" ++ listed (account_json s now) accounts ++ codes "],\"writers\":["
    ++ listed (writer_json s) writers ++ codes "]}\n"
