-- The calls of a file, one after another.
use Rattle.std.proofs.Common.{◌≡◌, ℕ, ◌+◌, ◌<◌, ◌≤◌, List, [], ◌∷◌, ◌++◌, length, get_or, drop, take, append_assoc, append-nil, Option, true, ap, arith, refl, ℤ}
use Rattle.std.proofs.lemmas.{List.drop_more, List.take_more, List.take_all, List.take-append-drop, Grind.common_steps}
use Rattle.std.specs.Io.KnownBytes.{Appends}
use Rattle.std.proofs.KnownBytes.{Appends-trans}
use Rattle.msg_buffer.specs.Prelude.{Kept}
use Rattle.msg_calls.specs.inner.Running.{AreIn, TakesFront}
use Rattle.msg_json.specs.Prelude.{AppendsPrefix}
use Rattle.msg_calls.specs.Cursors.{CallsFile}
use Rattle.msg_calls.specs.Prelude.{Call, BufferState, TakesFirstLines, after, calls_text, cursors_exist, line, made_by, start, text_of}
use Rattle.msg_json.proofs.Puts.{AppendsPrefix_after}

-- a call makes as many places as it makes cursors
pub length-places_after : (call : Call) (s : BufferState)
    → length (after call s).places ≡ length s.places + made_by call
length-places_after call s = grind (arith, common_steps)

-- the state after calls
abbrev pub after_all : List Call → BufferState → BufferState
after_all [] s = s
after_all (call ∷ calls) s = after_all calls (after call s)

after_all-append : (xs ys : List Call) (s : BufferState) → after_all (xs ++ ys) s ≡ after_all ys (after_all xs s)
after_all-append [] ys s = refl
after_all-append (x ∷ xs) ys s = after_all-append xs ys (after x s)

text_of-append : (xs ys : List Call) (s : BufferState) → text_of (xs ++ ys) s ≡ text_of xs s ++ text_of ys (after_all xs s)
text_of-append [] ys s = refl
text_of-append (x ∷ xs) ys s = rw (text_of-append xs ys (after x s), append_assoc) refl

-- what was put and what is gathered are the lines of the first calls, and the buffer is as these leave it
pub record OnTheWay (before now : Option (List ℕ)) (messages : Kept ℤ) (cursors gathered : List ℕ)
    (calls : List Call) (i : ℕ) (s : BufferState) : Type 0 where
  pub front : List ℕ
  pub are_in : AreIn messages cursors (after_all (take i calls) s)
  pub taken : Appends before now front
  pub whole : front ++ gathered ≡ text_of (take i calls) s
  pub exist : cursors_exist (length cursors) (drop i calls) ≡ true

-- a line before the lines of the calls after it
module _ (before now : Option (List ℕ)) (m : Kept ℤ) (cs gathered : List ℕ) (calls : List Call) (i : ℕ) (d : Call)
    (s : BufferState) (way : OnTheWay before now m cs gathered calls i s) (lt : i < length calls) where
  abbrev call_at : Call
  call_at = get_or calls i d

  abbrev here : BufferState
  here = after_all (take i calls) s

  one : take (i + 1) calls ≡ take i calls ++ call_at ∷ []
  one = take_more calls i d lt

  line_more : text_of (take (i + 1) calls) s ≡ text_of (take i calls) s ++ line call_at here
  line_more = rw (one, text_of-append, append-nil) refl

  state_more : after_all (take (i + 1) calls) s ≡ after call_at here
  state_more = rw (one, after_all-append) refl

  parts : text_of calls s ≡ way.front ++ ((gathered ++ line call_at here) ++ text_of (drop (i + 1) calls) (after call_at here))
  parts =
      let all : text_of (take (i + 1) calls ++ drop (i + 1) calls) s ≡ text_of calls s = ap (λ xs. text_of xs s) (take-append-drop (i + 1) calls) in
      let two = text_of-append (take (i + 1) calls) (drop (i + 1) calls) s in
      grind (arith, all, two, line_more, state_more, way.whole, append_assoc)

  -- one call more
  pub OnTheWay_more : (now' : Option (List ℕ)) (m' : Kept ℤ) (cs' gathered' : List ℕ)
      → ((s : BufferState) → AreIn m cs s → AreIn m' cs' (after (get_or calls i d) s))
      → ((s : BufferState) → AreIn m cs s → TakesFront now now' (gathered ++ line (get_or calls i d) s) gathered')
      → OnTheWay before now' m' cs' gathered' calls (i + 1) s
  OnTheWay_more now' m' cs' gathered' state puts =
      let are' = state here way.are_in in
      let put = puts here way.are_in in
      let longer = length-places_after call_at here in
      record {
        front = way.front ++ put.front;
        are_in = rw state_more are';
        taken = Appends-trans before now now' way.front put.front way.taken put.taken;
        whole = grind (arith, line_more, way.whole, put.parts, append_assoc);
        exist = grind (arith, way.exist, way.are_in.places, are'.places, longer, drop_more calls i d lt);
      }

  -- a put that fails leaves a front of the whole text
  pub OnTheWay_fails : (now' : Option (List ℕ)) (all : List ℕ)
      → ((s : BufferState) → AreIn m cs s → AppendsPrefix now now' (gathered ++ line (get_or calls i d) s))
      → all ≡ text_of calls s → AppendsPrefix before now' all
  OnTheWay_fails now' all puts is =
      AppendsPrefix_after before now now' way.front (gathered ++ line call_at here)
      (text_of (drop (i + 1) calls) (after call_at here)) all
      (grind (arith, is, parts, append_assoc)) way.taken (puts here way.are_in)

-- the text of these calls, which are those of a file
pub text_is : (file : CallsFile) (calls : List Call) → calls ≡ file.calls → calls_text file ≡ text_of calls (start file.limit)
text_is file calls same = rw same refl

module _ (before now now' : Option (List ℕ)) (m : Kept ℤ) (cs gathered : List ℕ) (file : CallsFile) (calls : List Call) (i : ℕ)
    (way : OnTheWay before now m cs gathered calls i (start file.limit)) (same : calls ≡ file.calls) where
  -- if there was no memory for a call, and what is gathered was put, the lines before it were taken
  pub OnTheWay_short : i < length calls → Appends now now' gathered → TakesFirstLines before now' file
  OnTheWay_short lt puts = record {
    calls = i;
    few = rw (← same) (omega (arith, lt));
    lines = rw (← same, ← way.whole) (Appends-trans before now now' way.front gathered way.taken puts);
  }

  -- no call is left
  module _ (le : length calls ≤ i) where
    whole : way.front ++ gathered ≡ calls_text file
    whole = rw (text_is file calls same, ← take_all i calls le) way.whole

    pub OnTheWay_stops : AppendsPrefix now now' gathered → AppendsPrefix before now' (calls_text file)
    OnTheWay_stops puts =
        AppendsPrefix_after before now now' way.front gathered [] (calls_text file)
        (rw (whole, append-nil) refl) way.taken puts

    pub OnTheWay_ends : Appends now now' gathered → Appends before now' (calls_text file)
    OnTheWay_ends puts = rw (← whole) (Appends-trans before now now' way.front gathered way.taken puts)
