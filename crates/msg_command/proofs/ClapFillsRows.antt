-- What words that clap takes leave of a subcommand: each row has a value.
use Rattle.std.proofs.Common.{arith, ◌≡◌, ℕ, zero, suc, length, List, [], ◌∷◌, refl, ap, ◌∙◌, Option, Some, None, Bool, true, false, fold, find, encode_utf8, drop, is_some, IfSome, ◌&&◌, ◌||◌, slice_get, not, nat_le}
use Rattle.std.specs.{Str.bytes_eq, Str.chars, List.list_all, List.list_any, Option.option_map_or}
use Rattle.clap.specs.{Facts.unwrap_or_range, declared.parser.matches.ValueSource.ValueSource, declared.builder.value_parser.Reading.Reading}
use Rattle.clap.specs.Words.{Row, Rule, Text, Shape, first_of}
use Rattle.clap.specs.Lexer.{long_of, short_of}
use Rattle.clap.specs.Simple.{built_leaf}
use Rattle.clap.specs.Values.{is_request}
use Rattle.clap.specs.Walk as Spec
use Rattle.clap.specs.Walk.{Step, Held, Names, Outcome, Waiting, Walk, bundle_met, walked, with_values}
use Rattle.clap.specs.Takes.{default_passes, bundle_passes, bundle_step_passes, flag_word_passes, flags_pass, is_given, level_passes, long_passes, option_passes, react_passes, settle_passes, short_passes, step_passes, turn_passes, use_passes, walk_passes, word_passes}
use Rattle.clap.specs.declared.parser.matches.ValueSource.TheVariants.{DefaultValue, CommandLine}
use Rattle.clap.specs.{declared.builder.ArgAction.ArgAction, declared.builder.ArgAction.TheVariants.Set, declared.builder.ArgAction.TheVariants.SetTrue}
use Rattle.msg_command.specs.Prelude.{buffer_app, file_app, plan_app, run_app, serve_app}
use Rattle.std.proofs.lemmas.{Bool.and_from, Bool.and_parts, Slice.Eq.bytes_eq-Decides}

-- ---- rows

-- there is one or more
abbrev some_of : List Text → Bool
some_of [] = false
some_of (v ∷ vs) = true

abbrev has_value : Row → Bool
has_value r = some_of r.values

-- each row has a value
abbrev pub have_values : List Row → Bool
have_values rows = list_all has_value rows

with_values_keeps : (id : Text) (how : Reading) (s : ValueSource) (vs : List Text) (rows : List Row)
    → some_of vs ≡ true → have_values rows ≡ true → have_values (with_values id how s vs rows) ≡ true
with_values_keeps id how s vs [] some all = and_from _ _ some refl
with_values_keeps id how s vs (r ∷ rs) some all = grind (arith, with_values_keeps id how s vs rs some)

without_keeps : (id : Text) (rows : List Row) → have_values rows ≡ true → have_values (Spec.without id rows) ≡ true
without_keeps id [] all = refl
without_keeps id (r ∷ rs) all = grind (arith, without_keeps id rs)

-- ---- uses

-- what passes leaves rows that have values, if those before it had
abbrev Keeps : Bool → List Row → List Row → Type 0
Keeps passes before after = passes ≡ true → have_values before ≡ true → have_values after ≡ true

-- a use that passes has a value, or there is one that stands for it; or no use passes
abbrev is_valued_as : ArgAction → Rule → Bool
is_valued_as Set a = not (nat_le (unwrap_or_range a.range).start_inclusive 0)
is_valued_as SetTrue a = some_of a.missing
is_valued_as action a = is_request action

abbrev is_valued : Rule → Bool
is_valued a = is_valued_as (Spec.action_of a) a

used_keeps : (a : Rule) (again : Bool) (vs : List Text) (rows : List Row) → is_valued a ≡ true
    → Keeps (use_passes again a vs rows) rows (Spec.used a vs rows)
used_keeps a again [] rows valued passes all =
    grind (arith, with_values_keeps a.id (Spec.reading_by a) CommandLine a.missing (Spec.without a.id rows), without_keeps a.id rows all)
used_keeps a again (v ∷ vs) rows valued passes all =
    grind (arith, with_values_keeps a.id (Spec.reading_by a) CommandLine (v ∷ vs) (Spec.without a.id rows), without_keeps a.id rows all)

abbrev IfValued : Option Rule → Type 0
IfValued o = IfSome o (λ a. is_valued a ≡ true)

found_valued : (test : Rule → Bool) (c : List Rule) → list_all is_valued c ≡ true → IfValued (find test c)
found_valued test [] each = tt
found_valued test (a ∷ rest) each = grind (arith, found_valued test rest)

-- a word that is no flag uses nothing
after_flag_rows : (c : List Rule) (w : Waiting) (word : Text) (h : Held) (o : Outcome)
    → (Spec.after_flag c w word h o).0.rows ≡ h.rows
after_flag_rows c w word h o = grind arith

module _ (c : List Rule) (again : Bool) (fine : list_all is_valued c ≡ true) where
  -- ---- what is held

  pending_keeps : (p : Option (Text × List Text)) (rows : List Row)
      → Keeps (option_map_or (λ q. option_map_or (λ a. use_passes again a q.1 rows) (Spec.arg_by_id c q.0) true) p true)
      rows (Spec.settled_rows c p rows)
  pending_keeps None rows passes all = all
  pending_keeps (Some p) rows passes all = grind (arith, found_valued (λ a. bytes_eq a.id p.0) c fine, used_keeps)

  settled_keeps : (h : Held) → Keeps (settle_passes c again h) h.rows (Spec.settled c h).rows
  settled_keeps h = pending_keeps h.pending h.rows

  reacted_keeps : (a : Rule) (vs : List Text) (h : Held) → is_valued a ≡ true
      → Keeps (react_passes c again a vs h) h.rows (Spec.reacted c a vs h).rows
  reacted_keeps a vs h its passes all = grind (arith, used_keeps a again vs (Spec.settled c h).rows its, settled_keeps h)

  option_keeps : (a : Rule) (v : Option Text) (h : Held) → is_valued a ≡ true
      → Keeps (option_passes c again a v h) h.rows (Spec.option_met c a v h).0.rows
  option_keeps a (Some v) h its = reacted_keeps a (v ∷ []) h its
  option_keeps a None h its = settled_keeps h

  -- ---- a word

  long_keeps : (o : Option Rule) (v : Option Text) (h : Held) → IfValued o
      → Keeps (long_passes c again o v h) h.rows (Spec.long_met c o v h).0.rows
  long_keeps None v h its passes all = cc
  long_keeps (Some a) v h its passes all = grind (arith, option_keeps a v h its, reacted_keeps a [] h its)

  short_keeps : (o : Option Rule) (rest : Text) (h : Held) (passing : Held → Bool) (met : Held → Held × Outcome)
      → IfValued o → ((g : Held) → Keeps (passing g) g.rows (met g).0.rows)
      → Keeps (short_passes c again o rest h passing) h.rows (Spec.short_met c o rest h met).0.rows
  short_keeps None rest h passing met its more passes all = cc
  short_keeps (Some a) rest h passing met its more passes all =
      let option = option_keeps a (Spec.attached_value rest) h its in
      grind (arith, option, reacted_keeps a [] h its, more (Spec.reacted c a [] h))

  -- the flags of a bundle, at most k of them, leave rows with values
  abbrev FlagsKeep : ℕ → Type 0
  FlagsKeep k = (flags : Text) (skip : ℕ) (so_far : Outcome) (h : Held)
      → Keeps (flags_pass c again k flags skip h) h.rows (bundle_met c k flags skip so_far h).0.rows

  flag_keeps : (k : ℕ) → FlagsKeep k → (flags : Text) (skip : ℕ) (so_far : Outcome) (h : Held) (x : Option ℕ)
      → Keeps (bundle_step_passes c again x flags skip h (flags_pass c again k)) h.rows
      (Spec.bundle_step c x flags skip so_far h (bundle_met c k)).0.rows
  flag_keeps k more flags skip so_far h None = λ passes all. all
  flag_keeps k more flags zero so_far h (Some x) =
      let rest = drop (length (encode_utf8 x)) flags in
      short_keeps (Spec.arg_by_short c x) rest h (flags_pass c again k rest 0) (bundle_met c k rest 0 Spec.done)
      (found_valued (λ a. not (is_some a.index) && Spec.has_short a x) c fine) (more rest 0 Spec.done)
  flag_keeps k more flags (suc skip) so_far h (Some x) =
      more (drop (length (encode_utf8 x)) flags) skip so_far h

  flags_keep : (k : ℕ) → FlagsKeep k
  unfolding flags_pass bundle_met
  flags_keep zero flags skip so_far h = λ passes all. all
  flags_keep (suc k) flags skip so_far h = flag_keeps k (flags_keep k) flags skip so_far h (slice_get (chars flags) 0)

  short_word_keeps : (w : Waiting) (word : Text) (flags : Option Text) (h : Held)
      → Keeps (option_map_or (λ f. bundle_passes c again f h) flags true) h.rows
      (Spec.short_or_plain c w word flags h).0.rows
  short_word_keeps w word None h passes all = ap have_values (after_flag_rows c w word h Spec.plain) ∙ all
  short_word_keeps w word (Some f) h passes all =
      ap have_values (after_flag_rows c w word (Spec.bundle c f h).0 (Spec.bundle c f h).1)
      ∙ flags_keep (length f) f h.skip Spec.plain (record h { skip = 0 }) passes all

  flag_word_keeps : (w : Waiting) (word : Text) (named : Option (Text × Option Text)) (h : Held)
      → Keeps (flag_word_passes c again named word h) h.rows (Spec.long_or_other c w word named h).0.rows
  flag_word_keeps w word None h = short_word_keeps w word (short_of word) h
  flag_word_keeps w word (Some p) h = λ passes all.
      let met = Spec.long_met c (Spec.arg_by_long c p.0) p.1 h in
      ap have_values (after_flag_rows c w word met.0 met.1) ∙ long_keeps (Spec.arg_by_long c p.0) p.1 h
      (found_valued (λ a. not (is_some a.index) && Spec.has_long a p.0) c fine) passes all

module _ (s : Shape) (names : Names) (fine : list_all is_valued s.rules ≡ true) where
  word_keeps : (past : Bool) (w : Waiting) (position : ℕ) (word : Text) (h : Held)
      → Keeps (word_passes s names past w word h) h.rows (Spec.word_met s.rules names past w position word h).0.rows
  word_keeps true w position word h passes all = all
  word_keeps false w position word h passes all =
      grind (arith, flag_word_keeps s.rules s.args_override_self fine w word (long_of word) h)

  step_keeps : (w : Walk) (word : Text) (h : Held) (step : Step)
      → Keeps (step_passes s w.position h step) h.rows (Spec.after_step s.rules word w h step).held.rows
  step_keeps w word h step passes all = grind (arith, settled_keeps s.rules s.args_override_self fine h)

  turn_keeps : (w : Walk) (word : Text)
      → Keeps (turn_passes s names w word) w.held.rows (walked s.rules names w word).held.rows
  unfolding walked
  turn_keeps w word passes all =
      let met = Spec.word_met s.rules names w.is_trailing w.waiting w.position word w.held in
      grind (arith, step_keeps w word met.0 met.1, word_keeps w.is_trailing w.waiting w.position word w.held)

-- what each turn that passes keeps, a walk does
pub walk_keeps : (s : Shape) (names : Names) (P : Walk → Type 0)
    → ((w : Walk) (word : Text) → turn_passes s names w word ≡ true → P w → P (walked s.rules names w word))
    → (words : List Text) (w : Walk) → walk_passes s names w words ≡ true → P w → P (fold (walked s.rules names) w words)
unfolding walk_passes
walk_keeps s names P turn [] w passes so_far = so_far
walk_keeps s names P turn (word ∷ rest) w passes so_far =
    let parts = and_parts (turn_passes s names w word) _ passes in
    walk_keeps s names P turn rest (walked s.rules names w word) parts.1 (turn w word parts.0 so_far)

defaults_keep : (c : List Rule) (rows : List Row) → have_values rows ≡ true
    → have_values (fold Spec.with_default rows c) ≡ true
defaults_keep [] rows all = all
defaults_keep (a ∷ rest) rows all =
    let with_values = with_values_keeps a.id (Spec.reading_by a) DefaultValue a.defaults rows in
    defaults_keep rest (Spec.with_default rows a) (grind (arith, with_values))

-- a row that is there has a first value
first_some : (id : Text) (rows : List Row) → have_values rows ≡ true
    → is_some (find (λ r. bytes_eq r.id id) rows) ≡ true → is_some (first_of id rows) ≡ true
first_some id [] all there = there
first_some id (r ∷ rs) all there = grind (arith, first_some id rs)

row_there : (id : Text) (rows : List Row) → Spec.has_row id rows ≡ true → is_some (find (λ r. bytes_eq r.id id) rows) ≡ true
row_there id [] h = h
row_there id (r ∷ rs) h = grind (arith, row_there id rs)

-- what is required is given
required_given : (id : Text) (rows : List Row) (c : List Rule) → list_all (λ a. not a.required || is_given a.id rows) c ≡ true
    → list_any (λ a. bytes_eq a.id id && a.required) c ≡ true → is_given id rows ≡ true
required_given id rows [] all some = cc
required_given id rows (a ∷ rest) all some = grind (arith, bytes_eq-Decides a.id id, required_given id rows rest)

-- what has a default is there
with_values_there : (id own : Text) (how : Reading) (s : ValueSource) (vs : List Text) (rows : List Row)
    → (Spec.has_row id rows || bytes_eq own id) ≡ true → Spec.has_row id (with_values own how s vs rows) ≡ true
with_values_there id own how s vs [] h = grind arith
with_values_there id own how s vs (r ∷ rs) h =
    grind (arith, bytes_eq-Decides own id, bytes_eq-Decides r.id own, with_values_there id own how s vs rs)

default_there : (id : Text) (c : List Rule) (rows : List Row)
    → (Spec.has_row id rows || list_any (λ a. bytes_eq a.id id && some_of a.defaults) c) ≡ true
    → Spec.has_row id (fold Spec.with_default rows c) ≡ true
default_there id [] rows h = grind arith
default_there id (a ∷ rest) rows h =
    let here = with_values_there id a.id (Spec.reading_by a) DefaultValue a.defaults rows in
    default_there id rest (Spec.with_default rows a) (grind (arith, bytes_eq-Decides a.id id, here))

-- ---- a subcommand

-- words that pass leave a value of each argument that is required or has a default
pub given : (s : Shape) (id : Text) (words : List Text) → list_all is_valued s.rules ≡ true
    → (list_any (λ a. bytes_eq a.id id && a.required) s.rules || list_any (λ a. bytes_eq a.id id && some_of a.defaults) s.rules) ≡ true
    → level_passes s [] Spec.nothing_held words false ≡ true
    → (t : Text) × (first_of id (Spec.rows_after s.rules [] words) ≡ Some t)
given s id words valued stands passes =
    let end = (Spec.walk s.rules [] Spec.nothing_held words).held in
    let first = (Spec.settled s.rules end).rows in
    let last = fold Spec.with_default first s.rules in
    let parts = and_parts (walk_passes s [] (Spec.walk_from Spec.nothing_held) words) _ passes in
    let settles = and_parts (settle_passes s.rules s.args_override_self end) _ parts.1 in
    let kept = settled_keeps s.rules s.args_override_self valued end settles.0
    (walk_keeps s [] (λ w. have_values w.held.rows ≡ true) (turn_keeps s [] valued) words (Spec.walk_from Spec.nothing_held) parts.0 refl) in
    let valid = (and_parts (list_all default_passes s.rules) _ settles.1).1 in
    let there : is_some (find (λ r. bytes_eq r.id id) last) ≡ true =
    grind (arith, and_parts, valid, stands, required_given id last s.rules, default_there id s.rules first, row_there id last) in
    elim (first_of id last) as (λ o. is_some o ≡ true → (t : Text) × (o ≡ Some t)) [
      | None ↦ λ no. cc
      | Some t ↦ λ _. (t, refl)
    ] (first_some id last (defaults_keep s.rules first kept) there)

-- `buffer` with its FILE and its flag
abbrev pub buffer_shape : Shape
buffer_shape = built_leaf buffer_app.top

-- `run` with its FILE, its flags and its number, and so `serve` and `plan`
abbrev pub run_shape : Shape
run_shape = built_leaf run_app.top

abbrev pub serve_shape : Shape
serve_shape = built_leaf serve_app.top

abbrev pub plan_shape : Shape
plan_shape = built_leaf plan_app.top

-- a subcommand of one FILE
abbrev pub file_shape : Text → Shape
file_shape name = built_leaf (file_app name).top
