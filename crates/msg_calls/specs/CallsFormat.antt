-- A calls file, read from a JSON value.
use Rattle.std.specs.Prelude.{ℕ, ◌+◌, nat_lt, List, [], ◌∷◌, Some, None, Ok, codes, if◌then◌else◌}
use Rattle.std.specs.Str.{bytes_eq}
use Rattle.serde_json.specs.Data.{Data}
use Rattle.msg_json.specs.Text.{Text}
use Rattle.msg_calls.specs.{Cursors.CallsFile, Cursors.made_by}
use Rattle.msg_json.specs.Values.{at_key, below, headed, known_keys, limit, limit_of, list_up_to, natural, number_of, value_of, values_of}
use Rattle.msg_json.specs.Faults.{Reading, fails, in_element, in_part, in_section, wanted, ◌>>=◌}
use Rattle.msg_calls.specs.declared.limits.TheConstants.{MAX_CALLS, MAX_CURSORS}
use Rattle.msg_calls.specs.declared.call.Call.{Call}
use Rattle.msg_calls.specs.declared.call.Call.TheVariants as call
use Rattle.msg_json.specs.declared.location.Key.TheVariants as key
use Rattle.msg_json.specs.declared.location.TheConstants.{CALLS_KEYS}
use Rattle.msg_json.specs.declared.reason.Reason.TheVariants as reason

-- a call that makes a cursor, if fewer than `MAX_CURSORS` were made before
abbrev pub one_cursor_more : ℕ → Call → Reading Call
one_cursor_more made c = wanted (nat_lt made MAX_CURSORS) (reason.AtMost MAX_CURSORS) >>= λ _. Ok c

-- a head alone
abbrev pub bare_call : ℕ → Text → Reading Call
bare_call made head =
    if bytes_eq head (codes "update") then Ok call.Update
    else if bytes_eq head (codes "cursor") then one_cursor_more made call.Cursor
    else if bytes_eq head (codes "cursor_current") then one_cursor_more made call.CursorCurrent
    else if bytes_eq head (codes "current") then Ok call.Current
    else if bytes_eq head (codes "oldest") then Ok call.Oldest
    else if bytes_eq head (codes "count") then Ok call.Count
    else if bytes_eq head (codes "total") then Ok call.Total
    else if bytes_eq head (codes "drain") then Ok call.Drain
    else if bytes_eq head (codes "clear_all") then Ok call.ClearAll
    else fails reason.Parts

-- a part that is the number of a cursor, of which so many were made before
abbrev pub cursor_part : ℕ → Data → Reading ℕ
cursor_part made d = in_part 1 (number_of d >>= below made)

-- a part that is the number of a message
abbrev pub message_part : Data → Reading ℕ
message_part d = in_part 1 (number_of d >>= natural)

-- a head and one part
abbrev pub call_with_one : ℕ → Text → Data → Reading Call
call_with_one made head d =
    if bytes_eq head (codes "write") then (in_part 1 (value_of d) >>= λ v. Ok (call.Write v))
    else if bytes_eq head (codes "batch")
    then (in_part 1 (values_of d) >>= λ vs. Ok (call.Batch vs))
    else if bytes_eq head (codes "read") then (cursor_part made d >>= λ c. Ok (call.Read c None))
    else if bytes_eq head (codes "missed") then (cursor_part made d >>= λ c. Ok (call.Missed c))
    else if bytes_eq head (codes "len") then (cursor_part made d >>= λ c. Ok (call.Len c))
    else if bytes_eq head (codes "clear") then (cursor_part made d >>= λ c. Ok (call.Clear c))
    else if bytes_eq head (codes "get") then (message_part d >>= λ n. Ok (call.Get n))
    else fails reason.Parts

-- a cursor, and how many messages it reads at most: both are numbers, and then in their ranges
abbrev pub cursor_and_limit : ℕ → Data → Data → Reading (ℕ × ℕ)
cursor_and_limit made d e =
    in_part 1 (number_of d) >>= λ m.
    in_part 2 (number_of e) >>= λ n.
    in_part 1 (below made m) >>= λ c.
    in_part 2 (limit n) >>= λ k.
    Ok (c, k)

-- a head and two parts
abbrev pub call_with_two : ℕ → Text → Data → Data → Reading Call
call_with_two made head d e =
    if bytes_eq head (codes "read")
    then (cursor_and_limit made d e >>= λ p. Ok (call.Read p.0 (Some p.1)))
    else fails reason.Parts

-- a head, and what stands after it
abbrev pub call_with : ℕ → Text → List Data → Reading Call
call_with made head [] = bare_call made head
call_with made head (d ∷ []) = call_with_one made head d
call_with made head (d ∷ e ∷ []) = call_with_two made head d e
call_with made head (d ∷ e ∷ f ∷ rest) = fails reason.Parts

-- a call, before which so many cursors were made
abbrev pub call_of : ℕ → Data → Reading Call
call_of made d = headed d >>= λ h. call_with made h.0 h.1

-- the calls in order, the first of which is number n
abbrev pub calls_from : ℕ → ℕ → List Data → Reading (List Call)
calls_from made n [] = Ok []
calls_from made n (d ∷ ds) =
    in_element n (call_of made d) >>= λ c.
    calls_from (made + made_by c) (n + 1) ds >>= λ cs.
    Ok (c ∷ cs)

-- at most 10,000 calls, before which cursor 0 is there
abbrev pub calls_of : Data → Reading (List Call)
calls_of d = list_up_to MAX_CALLS d >>= calls_from 1 0

-- a file: an object with the keys `limit` and `calls`, and no others
abbrev pub file_of : Data → Reading CallsFile
file_of d =
    known_keys CALLS_KEYS.now d >>= λ _.
    at_key key.Limit d >>= λ limit.
    at_key key.Calls d >>= λ calls.
    in_section key.Limit (limit_of limit) >>= λ limit.
    in_section key.Calls (calls_of calls) >>= λ calls.
    Ok (record { limit = limit; calls = calls })
