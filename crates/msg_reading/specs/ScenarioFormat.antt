-- A scenario file, read from a JSON value.
use Rattle.std.specs.Prelude.{ℕ, ◌+◌, zero, suc, ℤ, ⊤, nat_le, Bool, false, List, [], ◌∷◌, ◌++◌, Option, Some, None, Ok, Err, codes, option_and_then, unwrap_or, if◌then◌else◌}
use Rattle.std.specs.Str.{bytes_eq}
use Rattle.serde_json.specs.Data.{Data, Num, array, boolean, no_items, number, string, unsigned}
use Rattle.serde_json.specs.Find.{as_bool, as_i64, as_str, get}
use Rattle.msg_system.specs.{declared.op.Op.Op, declared.condition.Condition.Condition, declared.condition.Probe.Probe, declared.start.Start.Start}
use Rattle.msg_system.specs.declared.op.Op.TheVariants as op
use Rattle.msg_system.specs.declared.condition.Probe.TheVariants as probe
use Rattle.msg_system.specs.declared.start.Start.TheVariants as start
use Rattle.msg_frames.specs.{declared.frame.Frame.Frame}
use Rattle.msg_order.specs.declared.rule.Rule.{Rule}
use Rattle.msg_json.specs.Prelude.{Reading, at_key, batch_of, elements, fails, found, headed, in_element, in_item, in_key, in_nots, in_part, in_section, key_text, known_keys, limit, list_up_to, not_negative, number_of, numbers_of, only_below, text_in, wanted, whole, ◌>>=◌, Text}
use Rattle.msg_frames.specs.declared.limits.TheConstants.{LAST_JOIN}
use Rattle.msg_system.specs.declared.limits.TheConstants.{MAX_OPS}
use Rattle.msg_world.specs.declared.limits.TheConstants.{MAX_RESOURCES, MAX_SYSTEMS, MAX_TYPES}
use Rattle.msg_reading.specs.declared.limits.TheConstants.{MAX_CONDITIONS, MAX_FRAMES, MAX_NOTS, MAX_POSTS, MAX_RULES, MOST_NESTED}
use Rattle.msg_json.specs.declared.location.Key.{Key}
use Rattle.msg_json.specs.declared.location.Key.TheVariants as key
use Rattle.msg_json.specs.declared.location.TheConstants.{SCENARIO_KEYS, SYSTEM_KEYS}
use Rattle.msg_json.specs.declared.reason.Reason.TheVariants as reason
use Rattle.msg_reading.specs.{Names.is_name, Runnable.fits_kind, declared.kind.Kind.Kind, declared.scenario.Scenario.Scenario, declared.scenario.SystemSpec.SystemSpec}
use Rattle.msg_reading.specs.declared.kind.Kind.TheVariants as kind
use Rattle.msg_reading.specs.Declarations.{Declared, position_of, resource_number, system_number, type_number}

-- ---- lists

-- The elements in order, of which the first is number n. Each may use the names that were declared
-- before it. Beside them stand the names that are declared at the end.
abbrev pub each_from : {A : Type 0} → (Declared → ℕ → Data → Reading (A × Declared))
    → Declared → ℕ → List Data → Reading (List A × Declared)
each_from f names n [] = Ok ([], names)
each_from f names n (d ∷ ds) =
    f names n d >>= λ x.
    each_from f x.1 (n + 1) ds >>= λ y.
    Ok (x.0 ∷ y.0, y.1)

-- a list of at most so many elements
abbrev pub each_of : {A : Type 0} → ℕ → (Declared → ℕ → Data → Reading (A × Declared))
    → Declared → Data → Reading (List A × Declared)
each_of most f names d = list_up_to most d >>= each_from f names 0

-- what declares no name
abbrev pub keeping : {A : Type 0} → Declared → Reading A → Reading (A × Declared)
keeping names r = r >>= λ a. Ok (a, names)

-- a list of two
abbrev pub two : List Data → Reading (Data × Data)
two [] = fails reason.Parts
two (a ∷ []) = fails reason.Parts
two (a ∷ b ∷ []) = Ok (a, b)
two (a ∷ b ∷ c ∷ rest) = fails reason.Parts

-- ---- names

-- a good name
abbrev pub good_name : Text → Reading Text
good_name name = wanted (is_name name) reason.BadName >>= λ _. Ok name

-- a name that isn't among those before
abbrev pub unused_name : List Text → Text → Reading Text
unused_name before name =
    elim (position_of before name) [ None ↦ Ok name | Some n ↦ fails (reason.StandsAt n) ]

-- a new name: a good one, which isn't among those before
abbrev pub new_name : List Text → Text → Reading Text
new_name before name = good_name name >>= unused_name before

-- the type of a name
abbrev pub type_named : Declared → Text → Reading ℕ
type_named names name = found (type_number names name) reason.NoType

-- the resource of a name
abbrev pub resource_named : Declared → Text → Reading ℕ
resource_named names name = found (resource_number names name) reason.NoResource

-- the system of a name
abbrev pub system_named : Declared → Text → Reading ℕ
system_named names name = found (system_number names name) reason.NoSystem

-- ---- two parts, of which m is the number of the first

-- a text and another part: what they are, and then what they mean
abbrev pub two_parts : {X A B : Type 0} → (Data → Reading X) → (Text → Reading A) → (X → Reading B)
    → ℕ → Data → Data → Reading (A × B)
two_parts read first second m d e =
    in_part m (text_in d) >>= λ name.
    in_part (m + 1) (read e) >>= λ x.
    in_part m (first name) >>= λ a.
    in_part (m + 1) (second x) >>= λ b.
    Ok (a, b)

-- a type and a value
abbrev pub type_and_value : Declared → ℕ → Data → Data → Reading (ℕ × ℤ)
type_and_value names = two_parts number_of (type_named names) whole

-- a resource and a value
abbrev pub resource_and_value : Declared → Data → Data → Reading (ℕ × ℤ)
resource_and_value names = two_parts number_of (resource_named names) whole 1

-- ---- types and resources

-- a type, which declares its name
abbrev pub type_of : Declared → Data → Reading ((Text × ℕ) × Declared)
type_of names d =
    two (elements d) >>= λ pair.
    two_parts number_of (new_name names.types) limit 0 pair.0 pair.1 >>= λ p.
    Ok (p, record names { types = names.types ++ p.0 ∷ [] })

-- a resource, which declares its name
abbrev pub resource_of : Declared → Data → Reading ((Text × ℤ) × Declared)
resource_of names d =
    two (elements d) >>= λ pair.
    two_parts number_of (new_name names.resources) whole 0 pair.0 pair.1 >>= λ p.
    Ok (p, record names { resources = names.resources ++ p.0 ∷ [] })

-- ---- ops

-- the name of a type
abbrev pub type_in : Declared → Data → Reading ℕ
type_in names d = text_in d >>= type_named names

-- the name of a resource
abbrev pub resource_in : Declared → Data → Reading ℕ
resource_in names d = text_in d >>= resource_named names

-- a part that is a type
abbrev pub type_part : Declared → Data → Reading ℕ
type_part names d = in_part 1 (type_in names d)

-- a part that is a resource
abbrev pub resource_part : Declared → Data → Reading ℕ
resource_part names d = in_part 1 (resource_in names d)

-- a type, and how many messages are read at most
abbrev pub type_and_limit : Declared → Data → Data → Reading (ℕ × ℕ)
type_and_limit names = two_parts number_of (type_named names) limit 1

-- a type and the values of a batch
abbrev pub type_and_values : Declared → Data → Data → Reading (ℕ × List ℤ)
type_and_values names = two_parts numbers_of (type_named names) batch_of 1

-- two types
abbrev pub two_types : Declared → Data → Data → Reading (ℕ × ℕ)
two_types names = two_parts text_in (type_named names) (type_named names) 1

-- a type and a resource
abbrev pub type_and_resource : Declared → Data → Data → Reading (ℕ × ℕ)
type_and_resource names = two_parts text_in (type_named names) (resource_named names) 1

-- an op of a head alone
abbrev pub bare_op : Text → Reading (Op ℤ)
bare_op head = if bytes_eq head (codes "signal") then Ok op.Signal else fails reason.Parts

-- an op of a head and one part
abbrev pub op_with_one : Declared → Text → Data → Reading (Op ℤ)
op_with_one names head d =
    if bytes_eq head (codes "read") then (type_part names d >>= λ t. Ok (op.Read t None))
    else if bytes_eq head (codes "len") then (type_part names d >>= λ t. Ok (op.Len t))
    else if bytes_eq head (codes "missed") then (type_part names d >>= λ t. Ok (op.Missed t))
    else if bytes_eq head (codes "clear") then (type_part names d >>= λ t. Ok (op.Clear t))
    else if bytes_eq head (codes "get") then (resource_part names d >>= λ r. Ok (op.Get r))
    else if bytes_eq head (codes "drain") then (type_part names d >>= λ t. Ok (op.Drain t))
    else fails reason.Parts

-- an op of a head and two parts
abbrev pub op_with_two : Declared → Text → Data → Data → Reading (Op ℤ)
op_with_two names head d e =
    if bytes_eq head (codes "write")
    then (type_and_value names 1 d e >>= λ p. Ok (op.Write p.0 p.1))
    else if bytes_eq head (codes "batch")
    then (type_and_values names d e >>= λ p. Ok (op.Batch p.0 p.1))
    else if bytes_eq head (codes "read")
    then (type_and_limit names d e >>= λ p. Ok (op.Read p.0 (Some p.1)))
    else if bytes_eq head (codes "forward")
    then (two_types names d e >>= λ p. Ok (op.Forward p.0 p.1))
    else if bytes_eq head (codes "sum")
    then (type_and_resource names d e >>= λ p. Ok (op.Sum p.0 p.1))
    else if bytes_eq head (codes "set")
    then (resource_and_value names d e >>= λ p. Ok (op.Set p.0 p.1))
    else if bytes_eq head (codes "add")
    then (resource_and_value names d e >>= λ p. Ok (op.Add p.0 p.1))
    else fails reason.Parts

-- an op of a head, and of what stands after it
abbrev pub op_with : Declared → Text → List Data → Reading (Op ℤ)
op_with names head [] = bare_op head
op_with names head (d ∷ []) = op_with_one names head d
op_with names head (d ∷ e ∷ []) = op_with_two names head d e
op_with names head (d ∷ e ∷ f ∷ rest) = fails reason.Parts

-- an op: a list that begins with its head
abbrev pub op_of : Declared → Data → Reading (Op ℤ)
op_of names d = headed d >>= λ h. op_with names h.0 h.1

-- ---- conditions

-- what a `not` of one value has in it
abbrev pub in_not_with : Text → List Data → Option Data
in_not_with head [] = None
in_not_with head (d ∷ []) = if bytes_eq head (codes "not") then Some d else None
in_not_with head (d ∷ e ∷ rest) = None

-- what a value has in it, if it is a `not`
abbrev pub in_not : Data → Option Data
in_not d = elim (headed d) [ Ok h ↦ in_not_with h.0 h.1 | Err e ↦ None ]

-- what is left inside so many `not`s at most
abbrev pub inside_nots : ℕ → Data → Data
inside_nots zero d = d
inside_nots (suc n) d = elim (in_not d) [ None ↦ d | Some e ↦ inside_nots n e ]

-- how many `not`s there are round a value, at most so many
abbrev pub nots_round : ℕ → Data → ℕ
nots_round zero d = 0
nots_round (suc n) d = elim (in_not d) [ None ↦ 0 | Some e ↦ nots_round n e + 1 ]

-- there are at most `MAX_NOTS` of `not`
abbrev pub few_nots : ℕ → Reading ⊤
few_nots nots = wanted (nat_le nots MAX_NOTS) (reason.AtMost MAX_NOTS)

-- a probe of whether messages came: its part, the number of `not`s, and then the type
abbrev pub on_message : Declared → ℕ → Data → Reading (Probe ℤ)
on_message names nots d =
    in_nots nots (in_part 1 (text_in d)) >>= λ name.
    few_nots nots >>= λ _.
    in_nots nots (in_part 1 (type_named names name)) >>= λ t.
    Ok (probe.OnMessage t)

-- a probe of a resource: its parts, the number of `not`s, and then the resource and the value
abbrev pub resource_equals : Declared → ℕ → Data → Data → Reading (Probe ℤ)
resource_equals names nots d e =
    in_nots nots (in_part 1 (text_in d)) >>= λ name.
    in_nots nots (in_part 2 (number_of e)) >>= λ n.
    few_nots nots >>= λ _.
    in_nots nots (in_part 1 (resource_named names name)) >>= λ r.
    in_nots nots (in_part 2 (whole n)) >>= λ v.
    Ok (probe.ResourceEquals r v)

-- a probe of a head, and of what stands after it, round which there are so many `not`s
abbrev pub probe_with : Declared → ℕ → Text → List Data → Reading (Probe ℤ)
probe_with names nots head [] = in_nots nots (fails reason.Parts)
probe_with names nots head (d ∷ []) =
    if bytes_eq head (codes "on_message") then on_message names nots d
    else in_nots nots (fails reason.Parts)
probe_with names nots head (d ∷ e ∷ []) =
    if bytes_eq head (codes "resource_equals") then resource_equals names nots d e
    else in_nots nots (fails reason.Parts)
probe_with names nots head (d ∷ e ∷ f ∷ rest) = in_nots nots (fails reason.Parts)

-- what is asked for inside so many `not`s
abbrev pub probe_in : Declared → ℕ → Data → Reading (Probe ℤ)
probe_in names nots d = in_nots nots (headed d) >>= λ h. probe_with names nots h.0 h.1

-- a condition: a probe, and the `not`s round it; no JSON text nests `MOST_NESTED` deep
abbrev pub condition_of : Declared → Data → Reading (Condition ℤ)
condition_of names d =
    let nots = nots_round MOST_NESTED d in
    probe_in names nots (inside_nots MOST_NESTED d) >>= λ probe.
    Ok (record { nots = nots; probe = probe })

-- ---- keys that may be absent

-- what stands at a key, or else this value
abbrev pub value_or : Key → Data → Data → Data
value_or k otherwise d = unwrap_or (get (key_text k) d) otherwise

-- the empty list
abbrev pub nothing : Data
nothing = array no_items

-- the kind that a text names
abbrev pub kind_named : Option Text → Option Kind
kind_named None = None
kind_named (Some t) =
    if bytes_eq t (codes "script") then Some kind.Script
    else if bytes_eq t (codes "relay") then Some kind.Relay
    else if bytes_eq t (codes "tally") then Some kind.Tally
    else None

-- the start that a text names
abbrev pub start_named : Option Text → Option Start
start_named None = None
start_named (Some t) =
    if bytes_eq t (codes "zero") then Some start.Zero
    else if bytes_eq t (codes "current") then Some start.Current
    else None

-- ---- systems

-- the kind of a system: a script, if none is named
abbrev pub kind_of : Data → Reading Kind
kind_of d = found (kind_named (as_str (value_or key.Kind (string (codes "script")) d))) reason.Kind

-- op n of a system
abbrev pub op_at : Declared → ℕ → Data → Reading (Op ℤ × Declared)
op_at names n d = keeping names (in_item n (op_of names d))

-- the ops of a system of this kind: at most `MAX_OPS`, and those of the kind
abbrev pub ops_of : Declared → Kind → Data → Reading (List (Op ℤ) × Declared)
ops_of names kind d =
    each_of MAX_OPS op_at names d >>= λ x.
    wanted (fits_kind kind x.0) reason.NotOfKind >>= λ _.
    Ok x

-- condition n of a system
abbrev pub condition_at : Declared → ℕ → Data → Reading (Condition ℤ × Declared)
condition_at names n d = keeping names (in_item n (condition_of names d))

-- the conditions of a system: at most `MAX_CONDITIONS`, and none if there is no list of them
abbrev pub conditions_of : Declared → Data → Reading (List (Condition ℤ) × Declared)
conditions_of names d = each_of MAX_CONDITIONS condition_at names (value_or key.If nothing d)

-- a number, if it isn't 0
abbrev pub from_one : ℕ → Option ℕ
from_one zero = None
from_one (suc n) = Some (suc n)

-- the number of a frame to join with: from 1 to `LAST_JOIN`
abbrev pub join_number : Num → Reading ℕ
join_number n = found (option_and_then from_one (option_and_then (only_below (LAST_JOIN + 1))
    (option_and_then not_negative (as_i64 n)))) reason.Join

-- the frame that a system joins with: the first, if none is named
abbrev pub join_of : Data → Reading ℕ
join_of d = number_of (value_or key.Join (number (unsigned 1)) d) >>= join_number

-- where the cursors of a system start: at 0, if nothing is named
abbrev pub start_of : Data → Reading Start
start_of d =
    found (start_named (as_str (value_or key.Start (string (codes "zero")) d))) reason.Start

-- the names, with that of one more system
abbrev pub with_system : Declared → Text → Declared
with_system names name = record names { systems = names.systems ++ name ∷ [] }

-- the name of a system: a text, and a new name
abbrev pub system_name : Declared → Data → Reading Text
system_name names d = text_in d >>= new_name names.systems

-- all of a system but its name
abbrev pub program_of : Declared → Text → Data → Data → Reading (SystemSpec × Declared)
program_of names name ops d =
    in_key key.Kind (kind_of d) >>= λ kind.
    in_key key.Ops (ops_of names kind ops) >>= λ ops.
    in_key key.If (conditions_of ops.1 d) >>= λ conditions.
    in_key key.Join (join_of d) >>= λ join.
    in_key key.Start (start_of d) >>= λ start.
    Ok (
      record {
        name = name;
        kind = kind;
        program = record { ops = ops.0; start = start };
        place = record { conditions = conditions.0; join = join };
      },
      conditions.1,
    )

-- a system, which declares its name: an object with a name and ops
abbrev pub system_of : Declared → Data → Reading (SystemSpec × Declared)
system_of names d =
    known_keys SYSTEM_KEYS.now d >>= λ _.
    at_key key.Name d >>= λ name.
    at_key key.Ops d >>= λ ops.
    in_key key.Name (system_name names name) >>= λ name.
    program_of (with_system names name) name ops d

-- ---- rules and frames

-- a rule: the first system runs before the second
abbrev pub rule_of : Declared → Data → Reading Rule
rule_of names d =
    two (elements d) >>= λ pair.
    two_parts text_in (system_named names) (system_named names) 0 pair.0 pair.1 >>= λ p.
    Ok (record { earlier = p.0; later = p.1 })

-- a post: a type and a value
abbrev pub post_of : Declared → Data → Reading (ℕ × ℤ)
post_of names d = two (elements d) >>= λ pair. type_and_value names 0 pair.0 pair.1

-- post n of a frame
abbrev pub post_at : Declared → ℕ → Data → Reading ((ℕ × ℤ) × Declared)
post_at names n d = keeping names (in_item n (post_of names d))

-- a frame: at most `MAX_POSTS` posts
abbrev pub frame_of : Declared → Data → Reading (Frame ℤ × Declared)
frame_of names d = each_of MAX_POSTS post_at names d >>= λ x. Ok (record { posts = x.0 }, x.1)

-- ---- the file

-- type n
abbrev pub type_at : Declared → ℕ → Data → Reading ((Text × ℕ) × Declared)
type_at names n d = in_element n (type_of names d)

-- resource n
abbrev pub resource_at : Declared → ℕ → Data → Reading ((Text × ℤ) × Declared)
resource_at names n d = in_element n (resource_of names d)

-- system n
abbrev pub system_at : Declared → ℕ → Data → Reading (SystemSpec × Declared)
system_at names n d = in_element n (system_of names d)

-- rule n
abbrev pub rule_at : Declared → ℕ → Data → Reading (Rule × Declared)
rule_at names n d = keeping names (in_element n (rule_of names d))

-- frame n
abbrev pub frame_at : Declared → ℕ → Data → Reading (Frame ℤ × Declared)
frame_at names n d = in_element n (frame_of names d)

-- no name is declared
abbrev pub no_names : Declared
no_names = record { types = []; resources = []; systems = [] }

-- the types: at most `MAX_TYPES`
unfoldable pub types_of : Declared → Data → Reading (List (Text × ℕ) × Declared)
types_of names d = in_section key.Types (each_of MAX_TYPES type_at names d)

-- the resources: at most `MAX_RESOURCES`
unfoldable pub resources_of : Declared → Data → Reading (List (Text × ℤ) × Declared)
resources_of names d = in_section key.Resources
    (each_of MAX_RESOURCES resource_at names (value_or key.Resources nothing d))

-- whether the world is held: it isn't, if nothing says so
unfoldable pub held_of : Data → Reading Bool
held_of d = in_section key.Held (found (as_bool (value_or key.Held (boolean false) d)) reason.Truth)

-- the systems: at most `MAX_SYSTEMS`
unfoldable pub systems_of : Declared → Data → Reading (List SystemSpec × Declared)
systems_of names d = in_section key.Systems (each_of MAX_SYSTEMS system_at names d)

-- the rules: at most `MAX_RULES`
unfoldable pub rules_of : Declared → Data → Reading (List Rule × Declared)
rules_of names d =
    in_section key.Rules (each_of MAX_RULES rule_at names (value_or key.Rules nothing d))

-- the frames: at most `MAX_FRAMES`
unfoldable pub frames_of : Declared → Data → Reading (List (Frame ℤ) × Declared)
frames_of names d = in_section key.Frames (each_of MAX_FRAMES frame_at names d)

-- the sections of a file one after another; those that it needs are given
abbrev pub in_turn : Data → Data → Data → Data → Reading Scenario
in_turn types systems frames d =
    types_of no_names types >>= λ types.
    resources_of types.1 d >>= λ resources.
    held_of d >>= λ held.
    systems_of resources.1 systems >>= λ systems.
    rules_of systems.1 d >>= λ rules.
    frames_of rules.1 frames >>= λ frames.
    Ok (record {
      types = types.0;
      resources = resources.0;
      held = held;
      systems = systems.0;
      rules = rules.0;
      frames = frames.0;
    })

-- a scenario: an object with types, systems and frames, and with no other keys than those of
-- scenarios
abbrev pub scenario_of : Data → Reading Scenario
scenario_of d =
    known_keys SCENARIO_KEYS.now d >>= λ _.
    at_key key.Types d >>= λ types.
    at_key key.Systems d >>= λ systems.
    at_key key.Frames d >>= λ frames.
    in_turn types systems frames d
