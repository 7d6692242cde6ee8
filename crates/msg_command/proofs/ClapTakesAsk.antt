-- Words that clap takes ask for something, or for what there can't be: `buffer` and `check` have their FILE, `run`,
-- `plan` and `serve` their FILE and a number, and nothing else is entered.
use Rattle.std.proofs.Common.{arith, ◌≡◌, ◌⊎◌, inl, inr, ℕ, get_or, List, [], refl, ap, Option, Some, None, Bool, true, false, codes, is_some, ◌||◌, cond, not, option_map}
use Rattle.std.specs.{Str.bytes_eq, Option.option_map_or}
use Rattle.std.proofs.lemmas.{Slice.Eq.bytes_eq-Decides, Bool.and_parts}
use Rattle.clap.specs.Lexer.{long_of}
use Rattle.clap.specs.Words.{Row, Rule, Shape, Text, first_of, takes}
use Rattle.clap.specs.Simple.{built, entered, names_of, rows_at}
use Rattle.clap.specs.Walk.{Held, Names, Outcome, Step, Waiting, Walk, after_flag, after_step, long_or_other, nothing_held, stop_after, subcommand, subcommand_met, subcommand_or_other, walk_from, walked, word_met}
use Rattle.clap.specs.Takes.{entered_passes, level_passes, other_passes, turn_passes, walk_passes}
use Rattle.clap.proofs.OnLiterals.{clap_on_literals}
use Rattle.msg_command.specs.Prelude.{AsksForNone, HasNoNumber, asked, msgrun_app, number_in}
use Rattle.msg_command.specs.declared.limits.TheConstants.{LAST_FRAME, MAX_WORKERS}
use Rattle.msg_command.proofs.ClapFillsRows.{buffer_shape, file_shape, given, plan_shape, run_shape, serve_shape, walk_keeps}

-- ---- where a walk over words that pass stops, it isn't at `help`

abbrev top : Shape
top = (built msgrun_app).top

abbrev names : Names
names = names_of (built msgrun_app)

abbrev isnt_help : Option (Text × List Text) → Bool
isnt_help None = true
isnt_help (Some p) = not (bytes_eq p.0 (codes "help"))

-- a word that isn't `help` and isn't a subcommand
abbrev goes_on : Step → Bool
goes_on (subcommand name) = not (bytes_eq name (codes "help"))
goes_on _ = true

flag_goes_on : (c : List Rule) (w : Waiting) (word : Text) (h : Held) (o : Outcome) → goes_on (after_flag c w word h o).1 ≡ true
flag_goes_on c w word h o = grind arith

other_goes_on : (w : Waiting) (word : Text) (named : Option (Text × Option Text)) (h : Held)
    → goes_on (long_or_other top.rules w word named h).1 ≡ true
other_goes_on w word named h = grind (arith, flag_goes_on top.rules w word)

word_goes_on : (name : Option Text) (w : Waiting) (position : ℕ) (word : Text) (h : Held) → other_passes top name word h ≡ true
    → goes_on (subcommand_or_other top.rules name w position word h).1 ≡ true
unfolding clap_on_literals
word_goes_on None w position word h passes = grind (arith, other_goes_on w word (long_of word) h)
word_goes_on (Some name) w position word h passes = grind arith

step_stops : (word : Text) (w : Walk) (h : Held) (step : Step) → goes_on step ≡ true → isnt_help w.stopped ≡ true
    → isnt_help (after_step top.rules word w h step).stopped ≡ true
step_stops word w h step on so_far = grind arith

turn_stops : (w : Walk) (word : Text) → turn_passes top names w word ≡ true → isnt_help w.stopped ≡ true
    → isnt_help (walked top.rules names w word).stopped ≡ true
unfolding walked
turn_stops w word passes so_far =
    let here = word_met top.rules names w.is_trailing w.waiting w.position word w.held in
    let name = subcommand_met names w.waiting word in
    grind (arith, and_parts, step_stops word w here.0 here.1, word_goes_on name w.waiting w.position word w.held)

-- if a name isn't `help`, the test with the two texts swapped is false too
help_named : (name : Text) → not (bytes_eq name (codes "help")) ≡ true → bytes_eq (codes "help") name ≡ false
help_named name isnt = grind (arith, bytes_eq-Decides (codes "help") name, bytes_eq-Decides name (codes "help"))

-- ---- what is asked for

-- words ask for something, or for what there can't be
abbrev Asks : List Text → Type 0
Asks words = (is_some (asked words) ≡ true) ⊎ AsksForNone words

-- the subcommands: `buffer`, `run`, `check`, `plan`, `serve` and `help`
abbrev sub_at : ℕ → Shape
sub_at k = get_or (built msgrun_app).subs k top

-- the one that a name is of, by six tests of it
abbrev found : Bool → Bool → Bool → Bool → Bool → Bool → Option Shape
found a b c p v h =
    cond a (Some (sub_at 0))
    (cond b (Some (sub_at 1)) (cond c (Some (sub_at 2))
    (cond p (Some (sub_at 3)) (cond v (Some (sub_at 4)) (cond h (Some (sub_at 5)) None)))))

-- what a subcommand of a FILE and a number asks for, if its number is one
number_asks : (name id : Text) (most : ℕ) (words : List Text) (rows : List Row) (text : Text)
    → entered (built msgrun_app) (stop_after top.rules names words) ≡ Some (name, rows) → first_of id rows ≡ Some text
    → ((n : ℕ) → number_in most text ≡ Some n → is_some (asked words) ≡ true)
    → (HasNoNumber name id most words → AsksForNone words) → Asks words
unfolding clap_on_literals
number_asks name id most words rows text sub is asks none =
    elim (number_in most text) as (λ o. number_in most text ≡ o → Asks words) [
      | Some n ↦ λ number. inl (asks n number)
      | None ↦ λ no. inr (none (rows, text, sub, is, no))
    ] refl

found_asks : (words rest : List Text) (a b c p v h : Bool) → h ≡ false
    → entered (built msgrun_app) (stop_after top.rules names words) ≡ option_map (λ s. rows_at s rest) (found a b c p v h)
    → option_map_or (λ s. level_passes s [] nothing_held rest false) (found a b c p v h) true ≡ true → Asks words
unfolding clap_on_literals
found_asks words rest true b c p v h isnt sub passes =
    let file = given buffer_shape (codes "FILE") rest refl refl passes in
    inl (rw (sub, file.1) refl)
found_asks words rest false true c p v h isnt sub passes =
    let file = given run_shape (codes "FILE") rest refl refl passes in
    let text = given run_shape (codes "workers") rest refl refl passes in
    number_asks (codes "run") (codes "workers") MAX_WORKERS words _ text.0 sub text.1 (λ n is. rw (sub, file.1, text.1, is) refl) inl
found_asks words rest false false true p v h isnt sub passes =
    let file = given (file_shape (codes "check")) (codes "FILE") rest refl refl passes in
    inl (rw (sub, file.1) refl)
found_asks words rest false false false true v h isnt sub passes =
    let file = given plan_shape (codes "FILE") rest refl refl passes in
    let text = given plan_shape (codes "frame") rest refl refl passes in
    number_asks (codes "plan") (codes "frame") LAST_FRAME words _ text.0 sub text.1 (λ n is. rw (sub, file.1, text.1, is) refl)
    (λ no. inr (inl no))
found_asks words rest false false false false true h isnt sub passes =
    let file = given serve_shape (codes "FILE") rest refl refl passes in
    let text = given serve_shape (codes "workers") rest refl refl passes in
    number_asks (codes "serve") (codes "workers") MAX_WORKERS words _ text.0 sub text.1 (λ n is. rw (sub, file.1, text.1, is) refl)
    (λ no. inr (inr no))
found_asks words rest false false false false false true isnt sub passes = cc
found_asks words rest false false false false false false isnt sub passes = inl (rw sub refl)

stopped_asks : (words : List Text) (o : Option (Text × List Text)) → stop_after top.rules names words ≡ o
    → entered_passes (built msgrun_app) o ≡ true → isnt_help o ≡ true → Asks words
unfolding clap_on_literals
stopped_asks words None is passes isnt = inl (rw is refl)
stopped_asks words (Some (name, rest)) is passes isnt =
    found_asks words rest (bytes_eq (codes "buffer") name || false) (bytes_eq (codes "run") name || false)
    (bytes_eq (codes "check") name || false) (bytes_eq (codes "plan") name || false)
    (bytes_eq (codes "serve") name || false) (bytes_eq (codes "help") name || false) (ap (λ b. b || false) (help_named name isnt))
    (ap (entered (built msgrun_app)) is) passes

-- what words that clap takes ask for
pub takes_asks : (words : List Text) → takes msgrun_app words ≡ true → Asks words
unfolding clap_on_literals
takes_asks words passes =
    let parts = and_parts (entered_passes (built msgrun_app) (stop_after top.rules names words)) _ passes in
    let walks = and_parts (walk_passes top names (walk_from nothing_held) words) _ parts.1 in
    stopped_asks words (stop_after top.rules names words) refl parts.0
    (walk_keeps top names (λ w. isnt_help w.stopped ≡ true) turn_stops words (walk_from nothing_held) walks.0 refl)
