-- The lines of an input, one after the other.
use Rattle.std.proofs.Common.{◌≡◌, ◌≢◌, ℕ, ◌+◌, ◌-◌, ◌<◌, ◌≤◌, ◌==◌, ◌⊎◌, All, List, [], ◌∷◌, ◌++◌, Option, Some, None, IfSome, get_or, inl, inr, length, take, refl, subst, sym, ap, ◌∙◌, arith, append_assoc, ne_eqb, append-nil, Bool, true, false}
use Rattle.std.proofs.lemmas.Grind.{common_steps}
use Rattle.std.proofs.lemmas.List.Elements.{All-append, All-cons, All-head, All-nil, All-tail}
use Rattle.std.proofs.lemmas.List.{take_more}
use Rattle.std.proofs.Math.Seq.{take-length}
use Rattle.std.specs.Io.KnownBytes.{Consumes, Keeps}
use Rattle.std.specs.Io.BufRead.{DropsThrough, drop_through, take_through}
use Rattle.std.proofs.BufReadLemmas.{drop_through-append}
use Rattle.std.proofs.KnownBytes.{Consumes-kept, Consumes-trans}
use Rattle.msg_json.specs.Prelude.{Text}
use Rattle.msg_json.specs.declared.report_fault.ReportFault.TheVariants as report_fault
use Rattle.msg_serve.specs.Prelude.{TakesInLine, in_front, lines_of}
use Rattle.msg_serve.specs.inner.Input.{IsRead, first_line}
use Rattle.msg_serve.specs.declared.input.Line.TheVariants as line
use Rattle.msg_serve.specs.declared.limits.TheConstants.{MAX_LINE}
use Rattle.msg_serve.specs.declared.serve_fault.ServeFault.{ServeFault}
use Rattle.msg_serve.specs.declared.serve_fault.ServeFault.TheVariants as serve_fault

-- by whether it holds
by_test : {G : Type 0} (b : Bool) → (b ≡ true → G) → (b ≡ false → G) → G
by_test true holds fails = holds refl
by_test false holds fails = fails refl

-- bytes without a line feed
abbrev pub NoFeed : Text → Type 0
NoFeed xs = All (λ byte. byte ≢ 10) xs

-- they are a front of the line
first_line-append : (xs ys : List ℕ) → NoFeed xs → first_line (xs ++ ys) ≡ xs ++ first_line ys
first_line-append [] ys all = refl
first_line-append (x ∷ xs) ys all =
    let other : (x == 10) ≡ false = ne_eqb x 10 (All-head (λ y. y ≢ 10) x xs all) in
    rw (other, first_line-append xs ys (All-tail (λ y. y ≢ 10) x xs all)) refl

-- the lines are the first, and those of what lies past it
pub lines_more : (xs : List ℕ) → xs ≢ [] → lines_of xs ≡ first_line xs ∷ lines_of (drop_through 10 xs)
lines_more [] some = absurd (some refl)
lines_more (x ∷ []) some = by_test (x == 10) (λ e. rw e refl) (λ e. rw e refl)
lines_more (x ∷ y ∷ xs) some =
    let rest = lines_more (y ∷ xs) (λ e. cc) in
    by_test (x == 10) (λ e. rw e refl) (λ e. rw (e, rest) refl)

-- ---- bytes of one line

-- a byte in front of one line at most makes one
in_front_of_few : (x : ℕ) (l : List Text) → length l ≤ 1 → length (in_front x l) ≤ 1
in_front_of_few x [] few = omega arith
in_front_of_few x (line ∷ l) few = few

-- bytes without a line feed before bytes of one line at most are of one line
few_lines : (xs ys : Text) → NoFeed xs → length (lines_of ys) ≤ 1 → length (lines_of (xs ++ ys)) ≤ 1
few_lines [] ys all few = few
few_lines (x ∷ xs) ys all few =
    let other : (x == 10) ≡ false = ne_eqb x 10 (All-head (λ y. y ≢ 10) x xs all) in
    rw other (in_front_of_few x (lines_of (xs ++ ys)) (few_lines xs ys (All-tail (λ y. y ≢ 10) x xs all) few))

one_byte : (x : ℕ) → length (lines_of (x ∷ [])) ≤ 1
one_byte x = by_test (x == 10) (λ e. rw e (omega arith)) (λ e. rw e (omega arith))

-- some bytes are those before the last, and the last
last_apart : (xs : Text) → xs ≢ [] → xs ≡ take (length xs - 1) xs ++ get_or xs (length xs - 1) 0 ∷ []
last_apart [] some = absurd (some refl)
last_apart (x ∷ xs) some =
    let n = length (x ∷ xs) - 1 in
    let all : n + 1 ≡ length (x ∷ xs) = omega arith in
    sym (take-length (x ∷ xs)) ∙ rw all at (take_more (x ∷ xs) n 0 (omega arith))

-- without a line feed but at their end they are of one line
one_line : (xs : Text) → NoFeed (take (length xs - 1) xs) → length (lines_of xs) ≤ 1
one_line [] all = omega arith
one_line (x ∷ xs) all =
    let n = length (x ∷ xs) - 1 in
    subst (λ l. length (lines_of l) ≤ 1) (sym (last_apart (x ∷ xs) (λ e. cc)))
    (few_lines (take n (x ∷ xs)) (get_or (x ∷ xs) n 0 ∷ []) all (one_byte (get_or (x ∷ xs) n 0)))

-- by their last byte they end with a line feed, or have none
pub ends_with : (xs : Text) (x : ℕ) → NoFeed (take (length xs - 1) xs) → xs ≡ take (length xs - 1) xs ++ x ∷ [] → x ≢ 10 → NoFeed xs
ends_with xs x all is other =
    rw is (All-append (λ y. y ≢ 10) (take (length xs - 1) xs) (x ∷ []) all (All-cons (λ y. y ≢ 10) x [] other (All-nil (λ y. y ≢ 10))))

-- ---- what an input loses

-- nothing was taken of it
pub takes_none : (known : Option (List ℕ)) (fault : ServeFault) → IfSome known (λ bytes. TakesInLine bytes known fault)
takes_none None fault = tt
takes_none (Some bytes) fault = ([], bytes, refl, refl, omega arith, λ _. All-nil (λ byte. byte ≢ 10))

-- such bytes were
takes : (known after : Option (List ℕ)) (taken : Text) (fault : ServeFault) → Consumes known after taken
    → length (lines_of taken) ≤ 1 → (fault ≡ serve_fault.Input → NoFeed taken)
    → IfSome known (λ bytes. TakesInLine bytes after fault)
takes None after taken fault consumes few none = tt
takes (Some bytes) None taken fault consumes few none = absurd consumes
takes (Some bytes) (Some rest) taken fault consumes few none = (taken, rest, refl, consumes, few, none)

-- bytes without a line feed were
pub takes_front : (known after : Option (List ℕ)) (taken : Text) (fault : ServeFault) → Consumes known after taken → NoFeed taken
    → IfSome known (λ bytes. TakesInLine bytes after fault)
takes_front known after taken fault consumes all =
    takes known after taken fault consumes (rw (append-nil taken) at (few_lines taken [] all (omega arith))) (λ _. all)

-- a front of a line was, and then there was a fault in reading on
pub takes_more : (known mid after : Option (List ℕ)) (front taken : Text) (fault : ServeFault)
    → (fault ≡ serve_fault.Input) ⊎ (fault ≡ serve_fault.Report report_fault.NoMemory)
    → Consumes known mid front → NoFeed front → Consumes mid after taken → NoFeed (take (length taken - 1) taken)
    → (fault ≡ serve_fault.Input → Keeps mid after) → IfSome known (λ bytes. TakesInLine bytes after fault)
takes_more known mid after front taken fault (inl failed) first all second stops kept =
    takes_front known after front fault (Consumes-kept known mid after front first (kept failed)) all
takes_more known mid after front taken fault (inr memory) first all second stops kept =
    takes known after (front ++ taken) fault (Consumes-trans known mid after front taken first second)
    (few_lines front taken all (one_line taken stops)) (λ is. absurd (grind (arith, is, memory)))

through_whole : (xs : List ℕ) → xs ≡ take_through 10 xs ++ drop_through 10 xs
through_whole [] = refl
through_whole (x ∷ xs) =
    by_test (x == 10) (λ e. rw e refl) (λ e. rw e (ap (λ l. x ∷ l) (through_whole xs)))

through_one : (xs : List ℕ) → length (lines_of (take_through 10 xs)) ≤ 1
through_one [] = omega arith
through_one (x ∷ xs) =
    by_test (x == 10) (λ e. rw (e, e) (omega arith)) (λ e. rw (e, e) (in_front_of_few x (lines_of (take_through 10 xs)) (through_one xs)))

-- a line was
pub takes_line : (known after : Option (List ℕ)) (fault : ServeFault) → DropsThrough known after 10 → fault ≢ serve_fault.Input
    → IfSome known (λ bytes. TakesInLine bytes after fault)
takes_line None after fault drops other = tt
takes_line (Some bytes) after fault drops other =
    (take_through 10 bytes, drop_through 10 bytes, drops, through_whole bytes, through_one bytes, λ is. absurd (other is))

-- ---- a line that was read

some_after : (xs ys : List ℕ) → xs ++ 10 ∷ ys ≢ []
some_after [] ys none = cc
some_after (x ∷ xs) ys none = cc

-- past the line feed
pub drops_feed : (known after : Option (List ℕ)) (text : Text) → NoFeed text → Consumes known after (text ++ 10 ∷ [])
    → DropsThrough known after 10
drops_feed None after text all consumes = tt
drops_feed (Some bytes) None text all consumes = absurd consumes
drops_feed (Some bytes) (Some rest) text all consumes =
    let is = consumes ∙ append_assoc text (10 ∷ []) rest in
    ap Some (sym (ap (drop_through 10) is ∙ drop_through-append 10 text (10 ∷ rest) all))

-- or at the end
pub drops_all : (known mid after : Option (List ℕ)) (text : Text) → NoFeed text → Consumes known mid text → Consumes mid after []
    → IfSome mid (λ bytes. bytes ≡ []) → DropsThrough known after 10
drops_all None mid after text all first none end = tt
drops_all (Some bytes) None after text all first none end = absurd first
drops_all (Some bytes) (Some rest) None text all first none end = absurd none
drops_all (Some bytes) (Some rest) (Some last) text all first none end =
    let is : bytes ≡ text ++ [] = rw end at first in
    ap Some (sym none ∙ end ∙ sym (ap (drop_through 10) is ∙ drop_through-append 10 text [] all))

-- what was read before the rest of a line
pub drops_later : (known mid after : Option (List ℕ)) (text : Text) → NoFeed text → Consumes known mid text
    → DropsThrough mid after 10 → DropsThrough known after 10
drops_later None mid after text all first drops = tt
drops_later (Some bytes) None after text all first drops = absurd first
drops_later (Some bytes) (Some rest) after text all first drops =
    drops ∙ ap Some (sym (ap (drop_through 10) first ∙ drop_through-append 10 text rest all))

-- a line with its line feed
pub is_whole : (known after : Option (List ℕ)) (text : Text) → NoFeed text → Consumes known after (text ++ 10 ∷ [])
    → length text ≤ MAX_LINE → IfSome known (λ bytes. IsRead line.Whole bytes text)
is_whole None after text all consumes short = tt
is_whole (Some bytes) None text all consumes short = absurd consumes
is_whole (Some bytes) (Some rest) text all consumes short =
    let is = consumes ∙ append_assoc text (10 ∷ []) rest in (
      λ none. some_after text rest (sym is ∙ none),
      sym (ap first_line is ∙ first_line-append text (10 ∷ rest) all ∙ append-nil text),
      short,
    )

-- the last one, without a line feed
pub is_last : (known mid : Option (List ℕ)) (text : Text) → NoFeed text → Consumes known mid text
    → IfSome mid (λ bytes. bytes ≡ []) → text ≢ [] → length text ≤ MAX_LINE
    → IfSome known (λ bytes. IsRead line.Whole bytes text)
is_last None mid text all first end some short = tt
is_last (Some bytes) None text all first end some short = absurd first
is_last (Some bytes) (Some rest) text all first end some short =
    let is : bytes ≡ text ++ [] = rw end at first in (
      λ none. some (sym (append-nil text) ∙ sym is ∙ none),
      sym (ap first_line is ∙ first_line-append text [] all ∙ append-nil text),
      short,
    )

-- one that is too long
pub is_too_long : (known mid : Option (List ℕ)) (text : Text) → NoFeed text → Consumes known mid text → MAX_LINE < length text
    → IfSome known (λ bytes. IsRead line.TooLong bytes [])
is_too_long None mid text all first long = tt
is_too_long (Some bytes) None text all first long = absurd first
is_too_long (Some bytes) (Some rest) text all first long =
    rw (first, first_line-append text rest all) (grind (arith, common_steps, long))

-- bytes of a line, and more of them
pub more : (known mid after : Option (List ℕ)) (front taken : Text) → Consumes known mid front → NoFeed front
    → Consumes mid after taken → NoFeed taken → Consumes known after (front ++ taken) × NoFeed (front ++ taken)
more known mid after front taken first all second rest =
    (Consumes-trans known mid after front taken first second, All-append (λ byte. byte ≢ 10) front taken all rest)

-- or the rest of it
pub more_whole : (known mid after : Option (List ℕ)) (front taken added : Text) → Consumes known mid front → NoFeed front
    → Consumes mid after taken → taken ≡ added ++ 10 ∷ [] → NoFeed added
    → Consumes known after ((front ++ added) ++ 10 ∷ []) × NoFeed (front ++ added)
more_whole known mid after front taken added first all second is rest = (
  rw (append_assoc front added (10 ∷ [])) (Consumes-trans known mid after front (added ++ 10 ∷ []) first (rw is at second)),
  All-append (λ byte. byte ≢ 10) front added all rest,
)

-- a read of no bytes where there is room shows the end
pub at_end : (mid : Option (List ℕ)) (n room : ℕ) → IfSome mid (λ bytes. n ≡ 0 → 0 < room → bytes ≡ []) → n ≡ 0 → 0 < room
    → IfSome mid (λ bytes. bytes ≡ [])
at_end None n room end none some = tt
at_end (Some bytes) n room end none some = end none some
