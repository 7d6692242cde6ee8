-- Reading a JSON value: what it is, or its first fault: why it is refused, and where.
use Rattle.std.specs.Prelude.{◌≡◌, ◌⊎◌, ⊤, ℕ, Bool, List, Option, Some, None, Result, Ok, Err, codes, if◌then◌else◌}
use Rattle.serde_json.specs.Data.{Data}
use Rattle.msg_json.specs.Json.{IsJsonOf, IsNotJson}
use Rattle.msg_json.specs.declared.fault.Fault.{Fault}
use Rattle.msg_json.specs.declared.file_fault.FileFault.{FileFault}
use Rattle.msg_json.specs.declared.file_fault.FileFault.TheVariants as file_fault
use Rattle.msg_json.specs.declared.location.Location.{Location}
use Rattle.msg_json.specs.declared.location.Key.{Key}
use Rattle.msg_json.specs.declared.location.Key.TheVariants as key
use Rattle.msg_json.specs.declared.location.PathStep.{PathStep}
use Rattle.msg_json.specs.declared.location.PathStep.TheVariants as step
use Rattle.msg_json.specs.declared.reason.Reason.{Reason}
use Rattle.msg_json.specs.declared.reason.Reason.TheVariants as reason
use Rattle.msg_json.specs.declared.refusal.Refusal.{Refusal}
use Rattle.msg_json.specs.declared.refusal.Refusal.TheVariants as refusal

-- the keys as they stand in a file
abbrev pub key_text : Key → List ℕ
key_text key.Limit = codes "limit"
key_text key.Calls = codes "calls"
key_text key.Types = codes "types"
key_text key.Resources = codes "resources"
key_text key.Held = codes "held"
key_text key.Systems = codes "systems"
key_text key.Rules = codes "rules"
key_text key.Frames = codes "frames"
key_text key.Name = codes "name"
key_text key.Kind = codes "kind"
key_text key.Ops = codes "ops"
key_text key.If = codes "if"
key_text key.Join = codes "join"
key_text key.Start = codes "start"

-- the refusal for each reason
abbrev pub reason_refusal : Reason → Refusal
reason_refusal reason.Object = refusal.Shape
reason_refusal reason.UnknownKey = refusal.UnknownKey
reason_refusal (reason.Missing key) = refusal.Shape
reason_refusal reason.List = refusal.Shape
reason_refusal reason.Text = refusal.Shape
reason_refusal reason.Number = refusal.Shape
reason_refusal reason.Numbers = refusal.Shape
reason_refusal reason.Truth = refusal.Shape
reason_refusal reason.Parts = refusal.Shape
reason_refusal (reason.AtMost most) = refusal.TooMany
reason_refusal reason.Whole = refusal.BadNumber
reason_refusal reason.Natural = refusal.BadNumber
reason_refusal (reason.Below end) = refusal.BadNumber
reason_refusal reason.Join = refusal.BadNumber
reason_refusal reason.BadName = refusal.BadName
reason_refusal (reason.StandsAt n) = refusal.TwiceNamed
reason_refusal reason.NoType = refusal.UnknownName
reason_refusal reason.NoResource = refusal.UnknownName
reason_refusal reason.NoSystem = refusal.UnknownName
reason_refusal reason.Kind = refusal.Shape
reason_refusal reason.NotOfKind = refusal.Shape
reason_refusal reason.Start = refusal.Shape
reason_refusal (reason.Clash s) = refusal.Clash s
reason_refusal (reason.Cycle s) = refusal.Cycle s
reason_refusal reason.NoMemory = refusal.NoMemory

-- the refusal of a file
abbrev pub refusal_of : FileFault → Refusal
refusal_of (file_fault.NotJson line column) = refusal.NotJson
refusal_of (file_fault.At e) = reason_refusal e.reason

-- the location of what is read itself
abbrev pub here : Location
here = record {
  section = None;
  element = None;
  key = None;
  item = None;
  nots = 0;
  part = None;
  value = None;
  member = None;
}

-- a fault of what is read itself
abbrev pub fault : Reason → Fault
fault why = record { reason = why; location = here }

-- what a value is, or its first fault
abbrev pub Reading : Type 0 → Type 0
Reading A = Result A Fault

-- a refusal of what is read itself
abbrev pub fails : {A : Type 0} → Reason → Reading A
fails why = Err (fault why)

-- first the one; then, unless that fails, the other, which is told what the one gave
infixl 10 ◌>>=◌
abbrev pub ◌>>=◌ : {A B : Type 0} → Reading A → (A → Reading B) → Reading B
Ok x >>= f = f x
Err e >>= f = Err e

-- what is wanted holds, or it is refused for this reason
abbrev pub wanted : Bool → Reason → Reading ⊤
wanted holds why = if holds then Ok tt else fails why

-- what there is, or it is refused for this reason
abbrev pub found : {A : Type 0} → Option A → Reason → Reading A
found None why = fails why
found (Some a) why = Ok a

-- ---- a fault within what is read lies deeper

-- a location within what the step leads to, as it is told from where the step begins
abbrev pub after : PathStep → Location → Location
after (step.Section k) l = record l { section = Some k }
after (step.Element n) l = record l { element = Some n }
after (step.Key k) l = record l { key = Some k }
after (step.Item n) l = record l { item = Some n }
after (step.Nots n) l = record l { nots = n }
after (step.Part n) l = record l { part = Some n }
after (step.Value n) l = record l { value = Some n }

-- what was read where a step leads: its fault lies there
abbrev pub at_step : {A : Type 0} → PathStep → Reading A → Reading A
at_step s (Ok a) = Ok a
at_step s (Err e) = Err (record e { location = after s e.location })

-- what was read in the section of this key
abbrev pub in_section : {A : Type 0} → Key → Reading A → Reading A
in_section k = at_step (step.Section k)

-- what was read as this element of a section
abbrev pub in_element : {A : Type 0} → ℕ → Reading A → Reading A
in_element n = at_step (step.Element n)

-- what was read at this key of an element
abbrev pub in_key : {A : Type 0} → Key → Reading A → Reading A
in_key k = at_step (step.Key k)

-- what was read as this item of a list there
abbrev pub in_item : {A : Type 0} → ℕ → Reading A → Reading A
in_item n = at_step (step.Item n)

-- what was read inside so many `not`s
abbrev pub in_nots : {A : Type 0} → ℕ → Reading A → Reading A
in_nots n = at_step (step.Nots n)

-- what was read as this part of a list that has a head, or of a pair
abbrev pub in_part : {A : Type 0} → ℕ → Reading A → Reading A
in_part n = at_step (step.Part n)

-- what was read as this value of a batch
abbrev pub in_value : {A : Type 0} → ℕ → Reading A → Reading A
in_value n = at_step (step.Value n)

-- the answer of what may want memory: it is what is read, unless memory was refused
abbrev pub Reads : {A : Type 0} → Reading A → Reading A → Type 0
Reads reading (Ok a) = reading ≡ Ok a
Reads reading (Err e) = (e.reason ≡ reason.NoMemory) ⊎ (reading ≡ Err e)

-- what has this fault is refused by its reason
abbrev pub IsRefusedFor : (Fault → Type 0) → Refusal → Type 0
IsRefusedFor has r = (e : Fault) × has e × (r ≡ reason_refusal e.reason)

-- the bytes are no JSON text; or memory was refused
abbrev pub IsUnread : List ℕ → FileFault → Type 0
IsUnread bytes (file_fault.NotJson line column) = IsNotJson bytes
IsUnread bytes (file_fault.At e) = e.reason ≡ reason.NoMemory

-- Bytes have this fault, if it is told which faults a value has: they are no JSON text; or they are
-- the text of a value that has it; or memory was refused.
abbrev pub IsFaultOf : (Data → Fault → Type 0) → List ℕ → FileFault → Type 0
IsFaultOf has bytes (file_fault.NotJson line column) = IsNotJson bytes
IsFaultOf has bytes (file_fault.At e) = (e.reason ≡ reason.NoMemory)
    ⊎ ((d : Data) × IsJsonOf bytes d × has d e)
