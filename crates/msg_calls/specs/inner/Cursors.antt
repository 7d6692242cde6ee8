-- What the functions that read calls promise of cursors.
use Rattle.std.specs.Prelude.{◌≡◌, ◌≤◌, ◌+◌, ℕ, true}
use Rattle.msg_calls.specs.{Cursors.made_by, Cursors.has_cursor, declared.call.Call.Call, declared.limits.TheConstants.MAX_CURSORS}

-- the call works on one of the cursors that were made, and makes none past `MAX_CURSORS`
abbrev pub FitsCursors : ℕ → Call → Type 0
FitsCursors made call =
    (has_cursor made call ≡ true) × (made ≤ MAX_CURSORS → made + made_by call ≤ MAX_CURSORS)
