-- The command line: `msgrun`, `msgrun buffer FILE --explain`,
-- `msgrun run FILE --workers N --json --losses --explain`, `msgrun check FILE`,
-- `msgrun plan FILE --frame K --dot`, or `msgrun serve FILE --workers N`.
use Rattle.std.specs.Prelude.{Some, List, [], ◌∷◌, String, codes, map, string_bytes, true}
use Rattle.std.specs.declared.alloc.Global.{Global}
use Rattle.clap.specs.{Words.App, Words.Rule, Words.Text, Words.new_app, Words.new_rule, Words.with_rule, Words.with_subcommand, declared.builder.ArgAction.TheVariants.Set, declared.builder.ArgAction.TheVariants.SetTrue}

-- FILE, which has to stand there
abbrev pub file_rule : Rule
file_rule = record (new_rule (codes "FILE")) { required = true; action = Some Set }

-- --NAME N, which is 1 if it doesn't stand there
abbrev pub number_rule : Text → Rule
number_rule name = record (new_rule name) {
  long = Some name;
  action = Some Set;
  value_names = 1;
  defaults = codes "1" ∷ [];
}

-- --NAME, which has no value
abbrev pub flag_rule : Text → Rule
flag_rule name = record (new_rule name) { long = Some name; action = Some SetTrue }

-- a subcommand of this name with its FILE
abbrev pub file_app : Text → App
file_app name = with_rule (new_app name) file_rule

-- buffer FILE --explain
abbrev pub buffer_app : App
buffer_app = with_rule (file_app (codes "buffer")) (flag_rule (codes "explain"))

-- run FILE --workers N --json --losses --explain
abbrev pub run_app : App
run_app =
    with_rule (with_rule (with_rule (with_rule (file_app (codes "run")) (flag_rule (codes "json")))
    (flag_rule (codes "losses"))) (flag_rule (codes "explain"))) (number_rule (codes "workers"))

-- serve FILE --workers N
abbrev pub serve_app : App
serve_app = with_rule (file_app (codes "serve")) (number_rule (codes "workers"))

-- plan FILE --frame K --dot
abbrev pub plan_app : App
plan_app =
    with_rule (with_rule (file_app (codes "plan")) (flag_rule (codes "dot")))
    (number_rule (codes "frame"))

-- a command whose words don't begin with the program's own name, and which has a version
abbrev pub bare_app : App
bare_app =
    let a = new_app (codes "msgrun") in
    record a { top = record a.top { no_binary_name = true; has_version = true } }

-- the words, as their bytes
abbrev pub texts_of : List (String Global) → List Text
texts_of words = map string_bytes words

-- the command with the subcommands that answer calls or run frames
abbrev pub running_app : App
running_app =
    with_subcommand (with_subcommand bare_app buffer_app.top) run_app.top

-- the whole command: nothing, or one of the subcommands
abbrev pub msgrun_app : App
msgrun_app =
    with_subcommand (with_subcommand (with_subcommand running_app (file_app (codes "check")).top)
    plan_app.top) serve_app.top
