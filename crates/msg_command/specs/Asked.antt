-- What the words of the command line ask for.
use Rattle.std.specs.Prelude.{◌≡◌, ◌⊎◌, ℕ, [], ◌<◌, ◌≤◌, ◌&&◌, Bool, false, List, length, Option, Some, None, option_map, option_and_then, codes, string_bytes, nat_le, nat_lt, if◌then◌else◌}
use Rattle.std.specs.{Char.digit_value, List.list_all, Option.option_map_or, Str.bytes_eq, Str.Parse.digits_value, Str.Parse.without_leading_plus}
use Rattle.clap.specs.{Words.IsAmong, Words.Kinds, Words.Row, Words.Text, Words.first_of, Words.subcommand_of, declared.error.ErrorKind.ErrorKind}
use Rattle.clap.specs.declared.error.ErrorKind.TheVariants as kind
use Rattle.msg_command.specs.{CommandLine.msgrun_app, declared.words.Action.Action, declared.words.Action.TheVariants.Buffer, declared.words.Action.TheVariants.BufferExplained, declared.words.Action.TheVariants.Run, declared.words.Action.TheVariants.RunExplained, declared.words.Action.TheVariants.RunAsJson, declared.words.Action.TheVariants.RunWithLosses, declared.words.Action.TheVariants.Check, declared.words.Action.TheVariants.Plan, declared.words.Action.TheVariants.Serve, declared.words.WordFault.WordFault}
use Rattle.msg_command.specs.declared.limits.TheConstants.{LAST_FRAME, MAX_WORKERS}
use Rattle.msg_command.specs.declared.words.WordFault.TheVariants as word

-- a request: to answer the calls file of a name, or of standard input; to run the scenario file of
-- a name on so many workers, and report, with what each reader lost or without, or tell it as JSON;
-- either with a plain refusal or with one that is explained; to check the file of a name; to tell
-- the plan of a frame of the scenario file of a name, for Graphviz or not; or to serve the scenario
-- file of a name on so many workers
pub data Request : Type 0 where
  buffer : Option Text → Request
  buffer_explained : Text → Request
  run : Text → ℕ → Request
  run_explained : Text → ℕ → Request
  run_with_losses : Text → ℕ → Request
  run_as_json : Text → ℕ → Request
  check : Text → Request
  plan : Text → ℕ → Bool → Request
  serve : Text → ℕ → Request

-- the request that an action stands for
abbrev pub request_of : Action → Request
request_of (Buffer None) = buffer None
request_of (Buffer (Some file)) = buffer (Some (string_bytes file))
request_of (BufferExplained file) = buffer_explained (string_bytes file)
request_of (Run file workers) = run (string_bytes file) workers
request_of (RunExplained file workers) = run_explained (string_bytes file) workers
request_of (RunWithLosses file workers) = run_with_losses (string_bytes file) workers
request_of (RunAsJson file workers) = run_as_json (string_bytes file) workers
request_of (Check file) = check (string_bytes file)
request_of (Plan file frame dot) = plan (string_bytes file) frame dot
request_of (Serve file workers) = serve (string_bytes file) workers

-- one decimal digit or more, and nothing else
abbrev pub is_numeral : Text → Bool
is_numeral digits = nat_lt 0 (length digits) && list_all (λ c. nat_lt (digit_value c) 10) digits

-- a number from 1 to this one: its numeral, before which a plus may stand
abbrev pub number_in : ℕ → Text → Option ℕ
number_in most text =
    let digits = without_leading_plus text in
    let number = digits_value 10 digits in
    if is_numeral digits && (nat_le 1 number && nat_le number most) then Some number else None

-- the number from 1 to `most` that an option has
abbrev pub number_asked : Text → ℕ → List Row → Option ℕ
number_asked option most rows = option_and_then (number_in most) (first_of option rows)

-- whether this flag is among the words
abbrev pub is_asked : Text → List Row → Bool
is_asked flag rows = option_map_or (λ t. bytes_eq t (codes "true")) (first_of flag rows) false

-- what is made of a FILE and a number, if there are both
abbrev pub if_both : (Text → ℕ → Request) → Option Text → Option ℕ → Option Request
if_both make (Some file) (Some number) = Some (make file number)
if_both make (Some file) None = None
if_both make None number = None

-- how a run is told: as JSON, which tells losses too; else as a report with losses or without. A
-- refusal is explained if that is asked for, and always beside JSON or losses.
abbrev pub run_asked : List Row → Text → ℕ → Request
run_asked rows = if is_asked (codes "json") rows then run_as_json
    else (if is_asked (codes "losses") rows then run_with_losses
    else (if is_asked (codes "explain") rows then run_explained else run))

-- how the calls of a file are answered
abbrev pub buffer_asked : List Row → Text → Request
buffer_asked rows file =
    if is_asked (codes "explain") rows then buffer_explained file else buffer (Some file)

-- without a subcommand, standard input; with the subcommand `buffer`, its FILE, and how it is
-- answered; with `check`, its FILE; with `run`, its FILE and N, and how it is told; with `plan`, its
-- FILE, K, and whether it is for Graphviz
abbrev pub asked_by : Option (Text × List Row) → Option Request
asked_by None = Some (buffer None)
asked_by (Some (name, rows)) =
    if bytes_eq name (codes "buffer")
    then option_map (buffer_asked rows) (first_of (codes "FILE") rows)
    else (if bytes_eq name (codes "run")
    then if_both (run_asked rows) (first_of (codes "FILE") rows)
    (number_asked (codes "workers") MAX_WORKERS rows)
    else (if bytes_eq name (codes "check")
    then option_map (λ file. check file) (first_of (codes "FILE") rows)
    else (if bytes_eq name (codes "plan")
    then if_both (λ file frame. plan file frame (is_asked (codes "dot") rows))
    (first_of (codes "FILE") rows) (number_asked (codes "frame") LAST_FRAME rows)
    else (if bytes_eq name (codes "serve")
    then if_both serve (first_of (codes "FILE") rows)
    (number_asked (codes "workers") MAX_WORKERS rows) else None))))

-- what the words ask for, by the subcommand that clap finds in them
abbrev pub asked : List Text → Option Request
asked words = asked_by (subcommand_of msgrun_app words)

-- the words name this subcommand, and their value for this option is no number from 1 to `most`
abbrev pub HasNoNumber : Text → Text → ℕ → List Text → Type 0
HasNoNumber name id most words = (rows : List Row) × (text : Text)
    × (subcommand_of msgrun_app words ≡ Some (name, rows))
    × (first_of id rows ≡ Some text) × (number_in most text ≡ None)

-- the words ask for a run on workers, or for a plan of a frame, that there can't be
abbrev pub AsksForNone : List Text → Type 0
AsksForNone words = HasNoNumber (codes "run") (codes "workers") MAX_WORKERS words
    ⊎ HasNoNumber (codes "plan") (codes "frame") LAST_FRAME words
    ⊎ HasNoNumber (codes "serve") (codes "workers") MAX_WORKERS words

-- clap tells by this kind that help or the version is asked for
abbrev pub IsShown : ErrorKind → Type 0
IsShown k = (k ≡ kind.DisplayHelp) ⊎ (k ≡ kind.DisplayVersion)

-- The fault of words in which clap finds these kinds of errors. It is help only if one of them
-- asks for that or for the version. It is bad words only if there is none, or one of another
-- kind. It may always be want of memory.
abbrev pub IsWordFaultOf : Kinds → WordFault → Type 0
IsWordFaultOf kinds (word.Help text) = (k : ErrorKind) × IsAmong k kinds × IsShown k
IsWordFaultOf kinds word.Bad = (kinds ≡ [])
    ⊎ ((k : ErrorKind) × IsAmong k kinds × ¬ IsShown k)
IsWordFaultOf kinds word.NoMemory = Unit {0}

-- a run is on 1 to `MAX_WORKERS` workers, a plan of a frame from 1 to `LAST_FRAME`
abbrev pub IsInRange : Action → Type 0
IsInRange (Buffer file) = Unit {0}
IsInRange (BufferExplained file) = Unit {0}
IsInRange (Run file workers) = (0 < workers) × (workers ≤ MAX_WORKERS)
IsInRange (RunExplained file workers) = (0 < workers) × (workers ≤ MAX_WORKERS)
IsInRange (RunWithLosses file workers) = (0 < workers) × (workers ≤ MAX_WORKERS)
IsInRange (RunAsJson file workers) = (0 < workers) × (workers ≤ MAX_WORKERS)
IsInRange (Check file) = Unit {0}
IsInRange (Plan file frame dot) = (0 < frame) × (frame ≤ LAST_FRAME)
IsInRange (Serve file workers) = (0 < workers) × (workers ≤ MAX_WORKERS)
