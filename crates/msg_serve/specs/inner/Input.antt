-- The next line of an input: the words of private functions.
use Rattle.std.specs.Prelude.{◌≡◌, ◌≢◌, ℕ, ◌<◌, ◌≤◌, ◌==◌, All, List, [], ◌∷◌, ◌++◌, length, if◌then◌else◌}
use Rattle.msg_serve.specs.declared.input.Line.{Line}
use Rattle.msg_serve.specs.declared.input.Line.TheVariants as line
use Rattle.msg_serve.specs.declared.input.Part.{Part}
use Rattle.msg_serve.specs.declared.input.Part.TheVariants as part
use Rattle.msg_serve.specs.declared.limits.TheConstants.{MAX_LINE}
use Rattle.msg_json.specs.Prelude.{Text}

-- the bytes before the first line feed, which is byte 10, or all of them
abbrev pub first_line : List ℕ → Text
first_line [] = []
first_line (byte ∷ rest) = if byte == 10 then [] else byte ∷ first_line rest

-- what was read of an input that had these bytes
abbrev pub IsRead : Line → List ℕ → Text → Type 0
IsRead line.Whole bytes text =
    (bytes ≢ []) × (text ≡ first_line bytes) × (length text ≤ MAX_LINE)
IsRead line.TooLong bytes text = MAX_LINE < length (first_line bytes)
IsRead line.End bytes text = bytes ≡ []

-- What such a part of a line takes of an input, and adds to a line that may have so many bytes
-- more.
abbrev pub IsPart : Part → Text → ℕ → Text → Type 0
IsPart part.More taken room added =
    (taken ≢ []) × All (λ byte. byte ≢ 10) taken × (added ≡ taken)
IsPart part.Last taken room added = (taken ≡ added ++ 10 ∷ []) × All (λ byte. byte ≢ 10) added
IsPart part.TooLong taken room added = All (λ byte. byte ≢ 10) taken × (room < length taken)
IsPart part.End taken room added = (taken ≡ []) × (added ≡ [])
