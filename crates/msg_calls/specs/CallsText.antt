-- The text that a calls file prints: a line for each call, over one history and the places of its
-- cursors.
use Rattle.std.specs.Prelude.{ℕ, ℤ, ◌-◌, ◌≤◌, List, [], ◌∷◌, ◌++◌, length, slice_index, slice_set, take, Option, Some, None, codes, decimal, if◌then◌else◌}
use Rattle.std.specs.Io.KnownBytes.{Appends}
use Rattle.std.specs.Fmt.{signed_decimal}
use Rattle.msg_buffer.specs.Prelude.{History, clear, count, current, empty, get, given, has_room, missed, next_place, oldest, present, read, unread, update, write}
use Rattle.msg_buffer.specs.declared.Instance.{Instance}
use Rattle.msg_json.specs.Text.{Text}
use Rattle.msg_calls.specs.{Cursors.CallsFile, declared.call.Call.Call}
use Rattle.msg_calls.specs.declared.call.Call.TheVariants as call

-- a history, and the place of each cursor in the order of their making
pub record BufferState : Type 0 where
  pub history : History ℤ
  pub places : List ℕ

-- the place of a cursor
abbrev pub place : BufferState → ℕ → ℕ
place s cursor = slice_index s.places cursor

-- with a cursor at another place
abbrev pub with_cursor_at : BufferState → ℕ → ℕ → BufferState
with_cursor_at s cursor to = record s { places = slice_set s.places cursor to }

-- with one cursor more
abbrev pub with_cursor : BufferState → ℕ → BufferState
with_cursor s at = record s { places = s.places ++ at ∷ [] }

-- ---- parts of a line

-- NUMBER=VALUE
abbrev pub pair_text : Instance ℤ → Text
pair_text x = decimal x.id.0 ++ codes "=" ++ signed_decimal x.message

-- each pair with a space in front
abbrev pub more_pairs : List (Instance ℤ) → Text
more_pairs [] = []
more_pairs (x ∷ xs) = codes " " ++ pair_text x ++ more_pairs xs

-- the pairs with a space between two, or `none`
abbrev pub pairs_text : List (Instance ℤ) → Text
pairs_text [] = codes "none"
pairs_text (x ∷ xs) = pair_text x ++ more_pairs xs

-- FIRST+NUMBER of so many messages, or `spent` if there is no room for them
abbrev pub range_text : History ℤ → ℕ → Text
range_text h number =
    if has_room h number then decimal (count h) ++ codes "+" ++ decimal number else codes "spent"

-- a message's value, or `none`
abbrev pub value_text : Option ℤ → Text
value_text None = codes "none"
value_text (Some value) = signed_decimal value

-- the line of a new cursor at this place
abbrev pub cursor_line : BufferState → ℕ → Text
cursor_line s at =
    codes "cursor " ++ decimal (length s.places) ++ codes " place " ++ decimal at ++ codes "\n"

-- ---- the line of a call

-- the line that a call prints in a state
abbrev pub line : Call → BufferState → Text
line (call.Write value) s = codes "write " ++ range_text s.history 1 ++ codes "\n"
line (call.Batch values) s = codes "batch " ++ range_text s.history (length values) ++ codes "\n"
line call.Update s = codes "update\n"
line (call.Read c limit) s =
    codes "read " ++ decimal c ++ codes " missed " ++ decimal (missed s.history (place s c))
    ++ codes ": " ++ pairs_text (given s.history (place s c) limit) ++ codes "\n"
line (call.Missed c) s =
    codes "missed " ++ decimal c ++ codes " " ++ decimal (missed s.history (place s c))
    ++ codes "\n"
line (call.Len c) s =
    codes "len " ++ decimal c ++ codes " " ++ decimal (length (unread s.history (place s c)))
    ++ codes "\n"
line (call.Clear c) s =
    codes "clear " ++ decimal c ++ codes " missed " ++ decimal (missed s.history (place s c))
    ++ codes " cleared " ++ decimal (length (unread s.history (place s c))) ++ codes "\n"
line call.Cursor s = cursor_line s 0
line call.CursorCurrent s = cursor_line s (count s.history)
line (call.Get n) s =
    codes "get " ++ decimal n ++ codes " " ++ value_text (get s.history n) ++ codes "\n"
line call.Current s = codes "current: " ++ pairs_text (current s.history) ++ codes "\n"
line call.Oldest s = codes "oldest " ++ decimal (oldest s.history) ++ codes "\n"
line call.Count s = codes "count " ++ decimal (count s.history) ++ codes "\n"
line call.Total s = codes "total " ++ decimal (length (present s.history)) ++ codes "\n"
line call.Drain s = codes "drain: " ++ pairs_text (present s.history) ++ codes "\n"
line call.ClearAll s = codes "clear_all\n"

-- the state after a call; one that only asks changes nothing
abbrev pub after : Call → BufferState → BufferState
after (call.Write value) s = record s { history = write (value ∷ []) s.history }
after (call.Batch values) s = record s { history = write values s.history }
after call.Update s = record s { history = update s.history }
after (call.Read c limit) s = with_cursor_at s c (next_place (read s.history (place s c) limit))
after (call.Clear c) s = with_cursor_at s c (count s.history)
after call.Cursor s = with_cursor s 0
after call.CursorCurrent s = with_cursor s (count s.history)
after call.Drain s = record s { history = clear s.history }
after call.ClearAll s = record s { history = clear s.history }
after _ s = s

-- ---- the text of a file

-- the lines of calls, one after another
abbrev pub text_of : List Call → BufferState → Text
text_of [] s = []
text_of (call ∷ calls) s = line call s ++ text_of calls (after call s)

-- nothing was written, and cursor 0 is at place 0
abbrev pub start : ℕ → BufferState
start limit = record { history = empty limit; places = 0 ∷ [] }

-- the text of a calls file
abbrev pub calls_text : CallsFile → Text
calls_text file = text_of file.calls (start file.limit)

-- Known bytes grow by whole lines: those of the first calls of a file, but for the last call, if
-- there is one.
pub record TakesFirstLines (before now : Option (List ℕ)) (file : CallsFile) : Type 0 where
  pub calls : ℕ
  pub few : calls ≤ length file.calls - 1
  pub lines : Appends before now (text_of (take calls file.calls) (start file.limit))
