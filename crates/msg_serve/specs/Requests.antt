-- What a line asks for.
use Rattle.std.specs.Prelude.{◌≡◌, ◌⊎◌, ℕ, ◌<◌, ◌≤◌, ℤ, Bool, false, [], length, map, Ok, Err, codes, if◌then◌else◌}
use Rattle.std.specs.{Option.option_map_or, Str.bytes_eq}
use Rattle.serde_json.specs.{Data.Data, Find.as_str}
use Rattle.msg_frames.specs.declared.frame.Frame.{Frame}
use Rattle.msg_json.specs.Prelude.{IsJsonOf, IsNotJson, Reading, ◌>>=◌, Text}
use Rattle.msg_json.specs.declared.fault.Fault.{Fault}
use Rattle.msg_log_json.specs.Prelude.{IsPlain, not_json_line, refused_line, too_long_line}
use Rattle.msg_reading.specs.{Declarations.Declared, ScenarioFormat.frame_of}
use Rattle.msg_reading.specs.declared.scenario.Scenario.{Scenario}
use Rattle.msg_serve.specs.declared.limits.TheConstants.{MAX_LINE}

-- what is asked for: a frame, or the accounts of the readers; or the line is refused by this text
pub data Request : Type 0 where
  run : Frame ℤ → Request
  readers : Request
  refused : Text → Request

-- the names that a line may use: those of the types
abbrev pub names_of : Scenario → Declared
names_of s = record { types = map (λ named. named.0) s.types; resources = []; systems = [] }

-- a frame as it stands in a scenario file
abbrev pub frame_read : Scenario → Data → Reading (Frame ℤ)
frame_read s d = frame_of (names_of s) d >>= λ x. Ok x.0

-- the value is the text `readers`
abbrev pub is_for_readers : Data → Bool
is_for_readers d = option_map_or (λ text. bytes_eq text (codes "readers")) (as_str d) false

-- what the value of a line asks for
abbrev pub request_of : Scenario → Data → Reading Request
request_of s d = if is_for_readers d then Ok readers else frame_read s d >>= λ f. Ok (run f)

-- A line is refused by this text: it is too long, or no JSON text, or its value has a fault.
abbrev pub IsRefusedBy : Scenario → Text → Text → Type 0
IsRefusedBy s line text =
    ((MAX_LINE < length line) × (text ≡ too_long_line MAX_LINE))
    ⊎ ((length line ≤ MAX_LINE) × IsNotJson line × ((column : ℕ) × (text ≡ not_json_line column)))
    ⊎ ((length line ≤ MAX_LINE) × ((d : Data) × (e : Fault) × IsJsonOf line d
    × (request_of s d ≡ Err e) × ((why : Text) × IsPlain why × (text ≡ refused_line e why))))

-- a line asks for this
abbrev pub AsksFor : Scenario → Text → Request → Type 0
AsksFor s line (refused text) = IsRefusedBy s line text
AsksFor s line request = (length line ≤ MAX_LINE)
    × ((d : Data) × IsJsonOf line d × (request_of s d ≡ Ok request))
