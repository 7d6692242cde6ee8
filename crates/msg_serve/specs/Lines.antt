-- The lines of an input.
use Rattle.std.specs.Prelude.{ℕ, ◌==◌, List, [], ◌∷◌, if◌then◌else◌}
use Rattle.msg_json.specs.Prelude.{Text}

-- a byte in front of the first line
abbrev pub in_front : ℕ → List Text → List Text
in_front byte [] = (byte ∷ []) ∷ []
in_front byte (line ∷ lines) = (byte ∷ line) ∷ lines

-- the lines, each without its line feed, which is byte 10; the last line may have none
abbrev pub lines_of : List ℕ → List Text
lines_of [] = []
lines_of (byte ∷ rest) =
    if byte == 10 then [] ∷ lines_of rest else in_front byte (lines_of rest)
