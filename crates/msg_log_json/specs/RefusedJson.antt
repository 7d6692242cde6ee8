-- The line of a refusal: which, where in the line that is refused, and why.
use Rattle.std.specs.Prelude.{◌≢◌, ℕ, ◌<◌, All, [], ◌++◌, Option, Some, None, codes, decimal}
use Rattle.msg_json.specs.Faults.{reason_refusal}
use Rattle.msg_json.specs.{declared.fault.Fault.Fault, declared.location.Location.Location, declared.refusal.Refusal.Refusal}
use Rattle.msg_json.specs.declared.refusal.Refusal.TheVariants as refusal
use Rattle.msg_json.specs.Prelude.{Text}

-- how the line of a refusal begins: its number and its name
unfoldable pub refused_head : Refusal → Text
refused_head refusal.NotJson = codes "{\"refused\":1,\"name\":\"NotJson\",\"at\":\""
refused_head refusal.Shape = codes "{\"refused\":2,\"name\":\"Shape\",\"at\":\""
refused_head refusal.UnknownKey = codes "{\"refused\":3,\"name\":\"UnknownKey\",\"at\":\""
refused_head refusal.BadName = codes "{\"refused\":4,\"name\":\"BadName\",\"at\":\""
refused_head refusal.TwiceNamed = codes "{\"refused\":5,\"name\":\"TwiceNamed\",\"at\":\""
refused_head refusal.BadNumber = codes "{\"refused\":6,\"name\":\"BadNumber\",\"at\":\""
refused_head refusal.TooMany = codes "{\"refused\":7,\"name\":\"TooMany\",\"at\":\""
refused_head refusal.UnknownName = codes "{\"refused\":8,\"name\":\"UnknownName\",\"at\":\""
refused_head (refusal.Clash s) = codes "{\"refused\":9,\"name\":\"Clash\",\"at\":\""
refused_head (refusal.Cycle s) = codes "{\"refused\":10,\"name\":\"Cycle\",\"at\":\""
refused_head refusal.NoMemory = codes "{\"refused\":11,\"name\":\"NoMemory\",\"at\":\""

-- the step to an element of a list, if there is one
abbrev pub number_step : Option ℕ → Text
number_step None = []
number_step (Some n) = codes "[" ++ decimal n ++ codes "]"

-- the place in a line: a post, and a part of it
abbrev pub place_json : Location → Text
place_json l = number_step l.item ++ number_step l.part

-- each byte stands between the quotes of a JSON text as it is: it is no quote, which is byte 34, no
-- backslash, which is byte 92, and no control character
abbrev pub IsPlain : Text → Type 0
IsPlain text = All (λ byte. (31 < byte) × (byte ≢ 34) × (byte ≢ 92)) text

-- the line of a fault of a line's value; why it is refused is told to a person
abbrev pub refused_line : Fault → Text → Text
refused_line e why =
    refused_head (reason_refusal e.reason) ++ place_json e.location ++ codes "\",\"why\":\""
    ++ why ++ codes "\"}\n"

-- the line of a text that is no JSON, and can be read up to this column
abbrev pub not_json_line : ℕ → Text
not_json_line column =
    refused_head refusal.NotJson ++ (codes "column " ++ decimal column) ++ codes "\",\"why\":\""
    ++ codes "wanted JSON" ++ codes "\"}\n"

-- the line of a text of more than so many bytes
abbrev pub too_long_line : ℕ → Text
too_long_line most =
    refused_head refusal.TooMany ++ codes "\",\"why\":\"" ++ (codes "at most " ++ decimal most)
    ++ codes " bytes" ++ codes "\"}\n"
