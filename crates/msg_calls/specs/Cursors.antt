-- A calls file: a limit, and calls whose cursors exist.
use Rattle.std.specs.Prelude.{ℕ, ◌+◌, ◌&&◌, nat_lt, Bool, true, List, [], ◌∷◌}
use Rattle.msg_calls.specs.declared.call.Call.{Call}
use Rattle.msg_calls.specs.declared.call.Call.TheVariants as call

-- a buffer's limit, and the calls to be made on it
pub record CallsFile : Type 0 where
  pub limit : ℕ
  pub calls : List Call

-- how many cursors a call makes
abbrev pub made_by : Call → ℕ
made_by call.Cursor = 1
made_by call.CursorCurrent = 1
made_by _ = 0

-- the cursor that a call works on, if any, is one of the first `made`
abbrev pub has_cursor : ℕ → Call → Bool
has_cursor made (call.Read cursor limit) = nat_lt cursor made
has_cursor made (call.Missed cursor) = nat_lt cursor made
has_cursor made (call.Len cursor) = nat_lt cursor made
has_cursor made (call.Clear cursor) = nat_lt cursor made
has_cursor made _ = true

-- each call works on a cursor that was there before it
abbrev pub cursors_exist : ℕ → List Call → Bool
cursors_exist made [] = true
cursors_exist made (call ∷ calls) =
    has_cursor made call && cursors_exist (made + made_by call) calls
