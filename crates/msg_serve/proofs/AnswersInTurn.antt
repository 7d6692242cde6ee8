-- Requests that are answered one after another, and what the sink took of the answers.
use Rattle.std.proofs.Common.{get_or, ◌+◌, take-append-drop, ℤ, ◌≤◌, All, IfOk, ◌<◌, inl, inr, IfSome, Some, None, ◌≡◌, ◌≢◌, ℕ, List, [], ◌∷◌, ◌++◌, map, refl, sym, ap, ◌∙◌, arith, append_assoc, append-nil, Option, Result, Ok, Err, OnOk, length, take, drop}
use Rattle.std.specs.List.{AllZip}
use Rattle.std.specs.Io.BufRead.{DropsThrough, drop_through}
use Rattle.std.specs.Io.KnownBytes.{Appends}
use Rattle.std.proofs.KnownBytes.{Appends-nil, Appends-trans}
use Rattle.std.proofs.lemmas.{Bool.cases_Bool, List.drop_more, List.length-map, List.map-append, List.take_more, Result.IfOk-weaker}
use Rattle.serde_json.specs.Data.{Data}
use Rattle.msg_serve.specs.declared.limits.TheConstants.{MAX_LINE}
use Rattle.msg_json.specs.Prelude.{IsJsonOf, IsNotJson, Reading, ◌>>=◌, AppendsPrefix, IsPut, Text, one_failure_more}
use Rattle.msg_reading.specs.ScenarioFormat as Spec
use Rattle.msg_reading.specs.Prelude.{Declared, state_of}
use Rattle.msg_reading.proofs.{ReadScenarioRuns.posts_fit, WhatIsUsedIsThere.HasNames}
use Rattle.msg_system.specs.Prelude.{Meaning}
use Rattle.msg_exec.specs.Prelude.{EngineStands, IsEngine, IsSpoiled}
use Rattle.msg_exec.proofs.EngineRunsFrames.{is_alive}
use Rattle.msg_exec.specs.declared.engine.EngineOf.{EngineOf}
use Rattle.std.proofs.Math.Seq.{take-length}
use Rattle.msg_frames.specs.Prelude.{IsCompleteRun, SameSystems, State, run as run_of}
use Rattle.msg_frames.specs.declared.frame.Frame.{Frame}
use Rattle.msg_frames.proofs.Functions.{run_keeps}
use Rattle.msg_log_json.specs.Prelude.{not_json_line}
use Rattle.msg_reading.specs.declared.scenario.Scenario.{Scenario}
use Rattle.msg_serve.specs.Prelude.{AsksFor, AsksNext, EndsServing, EndsTrace, IsAnswered, IsTraced, Request, StopsAfter, TakesInLine, lines_of, after_own, after_request, after_requests, answer_of, texts_of, frames_among, own_requests, write_failed}
use Rattle.msg_serve.specs.Requests.{frame_read, is_for_readers, names_of, readers, refused, request_of, run}
use Rattle.msg_serve.specs.declared.server.Server.{Server}
use Rattle.msg_serve.specs.inner.Answering.{AnsweredSoFar, Answers, AreAsked, IsWantOfMemory, Serves, ValueAsksFor}
use Rattle.msg_serve.specs.inner.Input.{IsRead, first_line}
use Rattle.msg_serve.specs.declared.input.Line.{Line}
use Rattle.msg_serve.specs.declared.input.Line.TheVariants as what
use Rattle.msg_serve.specs.declared.serve_fault.ServeFault.{ServeFault}
use Rattle.msg_serve.specs.declared.serve_fault.ServeFault.TheVariants as serve_fault
use Rattle.msg_serve.proofs.{InputLines.lines_more, InputLines.takes_none, Requests.only_frames}
use Rattle.msg_json.specs.declared.report_fault.ReportFault.{ReportFault}
use Rattle.msg_json.specs.declared.report_fault.ReportFault.TheVariants as report_fault
use Rattle.msg_world.specs.{Prelude.i64_values, declared.run_fault.RunFault.RunFault}
use Rattle.msg_world.specs.declared.run_fault.RunFault.TheVariants as run_fault

-- ---- states

-- requests, and then others
pub after-append : (xs ys : List Request) (now : State i64_values)
    → after_requests (xs ++ ys) now ≡ after_requests ys (after_requests xs now)
after-append [] ys now = refl
after-append (x ∷ xs) ys now = after-append xs ys (after_request x now)

-- requests keep the systems
pub requests_keep : (requests : List Request) (now : State i64_values) → SameSystems now (after_requests requests now)
requests_keep requests now = rw (only_frames requests now) (run_keeps (frames_among requests) now)

-- of frames the frames are these
frames-map : (fs : List (Frame ℤ)) → frames_among (map run fs) ≡ fs
frames-map [] = refl
frames-map (f ∷ fs) = ap (λ l. f ∷ l) (frames-map fs)

-- frames as requests leave what their run does
pub after_frames : (fs : List (Frame ℤ)) (now : State i64_values)
    → after_requests (map run fs) now ≡ (run_of fs now).state
after_frames fs now = rw (only_frames (map run fs) now, frames-map fs) refl

-- requests after the frames of the file leave the systems of the scenario
pub own_keep : (s : Scenario) (requests : List Request)
    → SameSystems (state_of s) (after_requests requests (after_own s))
own_keep s requests =
    let own = run_keeps s.frames (state_of s) in
    let later = requests_keep requests (after_own s) in
    grind (arith, own, later)

-- ---- answers

module _ (s : Scenario) where
  pub answers-append : (xs ys : List Request) (now : State i64_values)
      → texts_of s (xs ++ ys) now ≡ texts_of s xs now ++ texts_of s ys (after_requests xs now)
  answers-append [] ys now = refl
  answers-append (x ∷ xs) ys now =
      ap (λ l. answer_of s x now ++ l) (answers-append xs ys (after_request x now))
      ∙ sym (append_assoc (answer_of s x now) (texts_of s xs (after_request x now))
      (texts_of s ys (after_requests xs (after_request x now))))

  -- one more
  pub answers_more : (xs : List Request) (x : Request) (now : State i64_values)
      → texts_of s (xs ++ x ∷ []) now ≡ texts_of s xs now ++ answer_of s x (after_requests xs now)
  answers_more xs x now =
      answers-append xs (x ∷ []) now ∙ ap (λ l. texts_of s xs now ++ l) (append-nil (answer_of s x (after_requests xs now)))

-- ---- what the sink took

module _ {S : Type 0} (contents : S → Option (List ℕ)) (failures : S → ℕ) {X : Type 0} (meaning : X → Meaning ℤ)
    (s : Scenario) (first : State i64_values) where
  -- nothing was asked for yet
  pub answered_none : (sink : S) (e : EngineOf X ℤ) → EngineStands meaning e first
      → AnsweredSoFar contents failures meaning s first [] sink sink e
  answered_none sink e stands = record { took = Appends-nil (contents sink); quiet = refl; stands = stands }

  module _ (requests : List Request) (old now : S) (e : EngineOf X ℤ)
      (far : AnsweredSoFar contents failures meaning s first requests old now e) where
    -- one more answer was put
    pub answered_more : (request : Request) (new : S) (f : EngineOf X ℤ)
        → Appends (contents now) (contents new) (answer_of s request (after_requests requests first))
        → failures new ≡ failures now → EngineStands meaning f (after_request request (after_requests requests first))
        → AnsweredSoFar contents failures meaning s first (requests ++ request ∷ []) old new f
    answered_more request new f puts quiet stands = record {
      took = rw (answers_more s requests request first) (Appends-trans (contents old) (contents now) (contents new)
          (texts_of s requests first) (answer_of s request (after_requests requests first)) far.took puts);
      quiet = quiet ∙ far.quiet;
      stands = rw (after-append requests (request ∷ []) first) stands;
    }

    module _ (IsNext : Request → Type 0) where
      -- none was put after them
      pub stopped : (fault : ServeFault) → fault ≢ write_failed
          → StopsAfter contents failures s requests first IsNext fault old now
      stopped fault other = inl (other, far.quiet, far.took)

      -- one was put in part
      pub stopped_within : (next : Request) → IsNext next → (new : S)
          → AppendsPrefix (contents now) (contents new) (answer_of s next (after_requests requests first))
          → failures new ≡ one_failure_more (failures now)
          → StopsAfter contents failures s requests first IsNext write_failed old new
      stopped_within next is new puts failed = inr (
        refl,
        rw (← far.quiet) failed,
        (
          next,
          is,
          puts.0,
          puts.1,
          puts.2,
          Appends-trans (contents old) (contents now) (contents new)
              (texts_of s requests first) puts.0 far.took puts.3,
        ),
      )

      -- what came of the put of one
      pub stopped_put : (next : Request) → IsNext next → (fault : ReportFault) (new : S)
          → IsPut contents failures (answer_of s next (after_requests requests first)) (Err fault) now new
          → StopsAfter contents failures s requests first IsNext (serve_fault.Report fault) old new
      stopped_put next is report_fault.Write new put = stopped_within next is new put.part (put.failed refl)
      stopped_put next is report_fault.NoMemory new put = rw (put.none (λ e. cc)) (stopped (serve_fault.Report report_fault.NoMemory) (λ e. cc))
      stopped_put next is (report_fault.Run fault) new put = rw (put.none (λ e. cc)) (stopped (serve_fault.Report (report_fault.Run fault)) (λ e. cc))

-- ---- one answer

-- what may be said if a call came to its end
pub on_ok_both : {T E A B C : Type 0} (r : Result T E) → OnOk r A → OnOk r B → (A → B → C) → OnOk r C
on_ok_both (Ok x) a b f = f a b
on_ok_both (Err e) a b f = tt

pub on_ok_any : {T E A : Type 0} (r : Result T E) → A → OnOk r A
on_ok_any (Ok x) a = a
on_ok_any (Err e) a = tt

module _ {X : Type 0} (meaning : X → Meaning ℤ) where
  -- a text that was made answers a line that is refused by it
  pub text_answers : (before after : Server X) → after.engine ≡ before.engine
      → Answers meaning (refused after.text.items) before after
  text_answers before after same now stands = record { text = refl; stands = rw same stands }

  -- the engine is one that may run frames
  pub is_engine : (server : Server X) → Serves meaning server → IsEngine i64_values meaning server.engine
  is_engine server serves = inr (serves.now, serves.stands)

  -- a run fault of it is want of memory
  pub only_memory : {T : Type 0} (server : Server X) (r : Result T RunFault) (why : RunFault) → Serves meaning server
      → r ≡ Err why → (r ≡ Err run_fault.Spoiled → IsSpoiled server.engine) → ¬ (r ≡ Err run_fault.BadOrder)
      → IsWantOfMemory (report_fault.Run why)
  only_memory server r run_fault.NoMemory serves is spoiled in_order = inl refl
  only_memory server r run_fault.Spoiled serves is spoiled in_order =
      absurd (is_alive meaning server.engine serves.now serves.stands (spoiled is))
  only_memory server r run_fault.BadOrder serves is spoiled in_order = absurd (in_order is)

names_fit : (s : Scenario) → HasNames (length s.types) 0 0 (names_of s)
names_fit s = record { types = length-map s.types (λ named. named.0); resources = refl; systems = refl }

no_frame : (r : Reading Request) (f : Frame ℤ) → r ≡ Ok readers → r ≡ Ok (run f) → ⊥
no_frame r f one other = cc

run_same : (x f : Frame ℤ) (r : Reading Request) → r ≡ Ok (run x) → r ≡ Ok (run f) → x ≡ f
run_same x f r one other = grind (arith, one, other)

made : (r : Reading (Frame ℤ × Declared)) (f : Frame ℤ) (P : Frame ℤ → Type 0) → IfOk r (λ x. P x.0)
    → ((r >>= λ x. Ok x.0) >>= λ g. Ok (run g)) ≡ Ok (run f) → P f
made (Ok x) f P fits is = rw (← run_same x.0 f (Ok (run x.0)) refl is) fits
made (Err e) f P fits is = absurd cc

frame_fits : (s : Scenario) (d : Data) (f : Frame ℤ) → (frame_read s d >>= λ g. Ok (run g)) ≡ Ok (run f)
    → All (λ p. p.0 < length s.types) f.posts
frame_fits s d f is =
    let all = posts_fit (length s.types) 0 0 (names_of s) d (names_fit s) in
    made (Spec.frame_of (names_of s) d) f (λ g. All (λ p. p.0 < length s.types) g.posts)
    (IfOk-weaker (Spec.frame_of (names_of s) d) _ _ (λ x fits. fits.0) all) is

-- a frame that a value asks for posts to types that there are
pub request_fits : (s : Scenario) (d : Data) (f : Frame ℤ) → request_of s d ≡ Ok (run f)
    → All (λ p. p.0 < length s.types) f.posts
request_fits s d f is = elim (cases_Bool (is_for_readers d)) [
  | inl e ↦ absurd (no_frame (Ok readers) f refl (rw e at is))
  | inr e ↦ frame_fits s d f (rw e at is)
]

-- a line that is no JSON text is refused by this
pub not_json_asks : (s : Scenario) (line text : Text) (column : ℕ) → length line ≤ MAX_LINE → IsNotJson line
    → text ≡ not_json_line column → AsksFor s line (refused text)
not_json_asks s line text column short other is = inr (inl (short, other, (column, is)))

-- what its value asks for a line does
pub value_asks : (s : Scenario) (line : Text) (d : Data) (request : Request) → length line ≤ MAX_LINE
    → IsJsonOf line d → ValueAsksFor s d request → AsksFor s line request
value_asks s line d (run f) short json asks = (short, (d, json, asks))
value_asks s line d readers short json asks = (short, (d, json, asks))
value_asks s line d (refused text) short json asks = inr (inr (short, (d, asks.0, json, asks.1, asks.2)))

-- ---- the lines of an input

-- lines and what they ask for, and one more
all_zip_more : {A B : Type 0} (R : A → B → Type 0) (xs : List A) (ys : List B) (x : A) (y : B) → AllZip R xs ys
    → R x y → AllZip R (xs ++ x ∷ []) (ys ++ y ∷ [])
all_zip_more R [] [] x y all one = (one, tt)
all_zip_more R [] (b ∷ ys) x y all one = absurd all
all_zip_more R (a ∷ xs) [] x y all one = absurd all
all_zip_more R (a ∷ xs) (b ∷ ys) x y all one = (all.0, all_zip_more R xs ys x y all.1 one)

module _ (s : Scenario) where
  -- none was read
  pub asked_none : (known : Option (List ℕ)) → IfSome known (λ bytes. AreAsked s bytes known [])
  asked_none None = tt
  asked_none (Some bytes) = record { lines = []; rest = bytes; left = refl; are = refl; asked = tt }

  -- what the next line asks for
  abbrev pub Next : Option (List ℕ) → Request → Type 0
  Next mid request = IfSome mid (λ bytes. (bytes ≢ []) × AsksFor s (first_line bytes) request)

  -- the lines that are left begin with the next
  next_first : (bytes rest : List ℕ) (requests : List Request) (far : AreAsked s bytes (Some rest) requests) → rest ≢ []
      → lines_of bytes ≡ far.lines ++ first_line rest ∷ lines_of (drop_through 10 rest)
  next_first bytes rest requests far some =
      let is : far.rest ≡ rest = grind (arith, far.left) in
      far.are ∙ ap (λ l. far.lines ++ l) (rw is (lines_more rest some))

  -- one more was
  pub asked_more : (known mid after : Option (List ℕ)) (requests : List Request) (request : Request)
      → IfSome known (λ bytes. AreAsked s bytes mid requests) → Next mid request → DropsThrough mid after 10
      → IfSome known (λ bytes. AreAsked s bytes after (requests ++ request ∷ []))
  asked_more None mid after requests request far next drops = tt
  asked_more (Some bytes) None after requests request far next drops = absurd cc
  asked_more (Some bytes) (Some rest) after requests request far next drops =
      let line = first_line rest in
      record {
        lines = far.lines ++ line ∷ [];
        rest = drop_through 10 rest;
        left = drops;
        are = next_first bytes rest requests far next.0
            ∙ sym (append_assoc far.lines (line ∷ []) (lines_of (drop_through 10 rest)));
        asked = all_zip_more (AsksFor s) far.lines requests line request far.asked next.1;
      }

  -- at the end nothing is left
  pub none_left : (known mid : Option (List ℕ)) (requests : List Request)
      → IfSome known (λ bytes. AreAsked s bytes mid requests) → IfSome mid (λ bytes. bytes ≡ [])
      → IfSome known (λ _. mid ≡ Some [])
  none_left None mid requests far end = tt
  none_left (Some bytes) None requests far end = absurd cc
  none_left (Some bytes) (Some rest) requests far end = ap Some end

  -- all were
  pub asked_all : (known mid : Option (List ℕ)) (requests : List Request)
      → IfSome known (λ bytes. AreAsked s bytes mid requests) → IfSome mid (λ bytes. bytes ≡ [])
      → IfSome known (λ bytes. AllZip (AsksFor s) (lines_of bytes) requests)
  asked_all None mid requests far end = tt
  asked_all (Some bytes) None requests far end = absurd cc
  asked_all (Some bytes) (Some rest) requests far end =
      let is : far.rest ≡ [] = grind (arith, far.left, end) in
      rw (far.are, is, append-nil far.lines) far.asked

  module _ {S : Type 0} (contents : S → Option (List ℕ)) (failures : S → ℕ) (old new : S) (fault : ServeFault) where
    -- a fault before the next line is answered
    pub ends_before : (known mid after : Option (List ℕ)) (requests : List Request)
        → IfSome known (λ bytes. AreAsked s bytes mid requests) → IfSome mid (λ rest. TakesInLine rest after fault)
        → ((IsNext : Request → Type 0) → StopsAfter contents failures s requests (after_own s) IsNext fault old new)
        → IfSome known (λ bytes. EndsServing contents failures s bytes after fault old new)
    ends_before None mid after requests far took stops = tt
    ends_before (Some bytes) mid after requests far took stops = record {
      lines = far.lines;
      later = far.rest;
      are = far.are;
      taken = rw far.left at took;
      requests = requests;
      asked = far.asked;
      stops = stops (AsksNext s (lines_of far.rest));
    }

    -- a fault while the answer of the next line is put
    pub ends_within : (known mid after : Option (List ℕ)) (requests : List Request) (request : Request)
        → IfSome known (λ bytes. AreAsked s bytes mid requests) → Next mid request
        → IfSome mid (λ rest. TakesInLine rest after fault)
        → ((IsNext : Request → Type 0) → IsNext request
        → StopsAfter contents failures s requests (after_own s) IsNext fault old new)
        → IfSome known (λ bytes. EndsServing contents failures s bytes after fault old new)
    ends_within None mid after requests request far next took stops = tt
    ends_within (Some bytes) mid after requests request far next took stops =
        let first = rw far.left at next in
        record {
          lines = far.lines;
          later = far.rest;
          are = far.are;
          taken = rw far.left at took;
          requests = requests;
          asked = far.asked;
          stops = stops (AsksNext s (lines_of far.rest)) (rw (lines_more far.rest first.0) first.1);
        }

    -- a fault after all lines
    pub ends_after : (known after : Option (List ℕ)) (requests : List Request)
        → IfSome known (λ bytes. AllZip (AsksFor s) (lines_of bytes) requests) → IfSome known (λ _. after ≡ Some [])
        → ((IsNext : Request → Type 0) → IsNext readers
        → StopsAfter contents failures s requests (after_own s) IsNext fault old new)
        → IfSome known (λ bytes. EndsServing contents failures s bytes after fault old new)
    ends_after None after requests asked left stops = tt
    ends_after (Some bytes) after requests asked left stops = record {
      lines = lines_of bytes;
      later = [];
      are = sym (append-nil (lines_of bytes));
      taken = rw left (takes_none (Some []) fault);
      requests = requests;
      asked = asked;
      stops = stops (AsksNext s []) refl;
    }

  -- what is asked for next is so by the bytes of the input, if they are known
  pub next_of : (known : Option (List ℕ)) (read : Line) (text : Text) (request : Request) → read ≢ what.End
      → IfSome known (λ bytes. IsRead read bytes text)
      → ((bytes : List ℕ) → IsRead read bytes text → AsksFor s (first_line bytes) request) → Next known request
  next_of None read text request some is asks = tt
  next_of (Some bytes) what.End text request some is asks = absurd (some refl)
  next_of (Some bytes) what.Whole text request some is asks = (is.0, asks bytes is)
  next_of (Some bytes) what.TooLong text request some is asks =
      (λ none. omega (arith, rw none at is), asks bytes is)

-- ---- the frames of the file

-- what is asked for by one frame more
pub frames_next : (fs : List (Frame ℤ)) (k : ℕ) (f : Frame ℤ) → k < length fs → f ≡ get_or fs k f
    → map run (take (k + 1) fs) ≡ map run (take k fs) ++ run f ∷ []
frames_next fs k f lt is =
    ap (map run) (rw (← is) at (take_more fs k f lt)) ∙ map-append run (take k fs) (f ∷ [])

-- after all of them
pub own_done : (s : Scenario) (k : ℕ) → k ≡ length s.frames
    → after_requests (map run (take k s.frames)) (state_of s) ≡ after_own s
own_done s k all = rw (all, take-length) (after_frames s.frames (state_of s))

-- a frame stands between those before and those after it
own_split : (s : Scenario) (k : ℕ) (f : Frame ℤ) → k < length s.frames → f ≡ get_or s.frames k f
    → own_requests s ≡ map run (take k s.frames) ++ (run f ∷ (map run (drop (k + 1) s.frames) ++ readers ∷ []))
own_split s k f lt is =
    let first = take k s.frames in
    let later = drop (k + 1) s.frames in
    let parts : s.frames ≡ first ++ f ∷ later =
    sym (take-append-drop k s.frames) ∙ ap (λ l. first ++ l) (rw (← is) at (drop_more s.frames k f lt)) in
    ap (λ l. map run l ++ readers ∷ []) parts ∙ ap (λ l. l ++ readers ∷ []) (map-append run first (f ∷ later))
    ∙ append_assoc (map run first) (run f ∷ map run later) (readers ∷ [])

-- want of memory is no failed put
pub no_failed_put : (fault : ReportFault) → IsWantOfMemory fault → serve_fault.Report fault ≢ write_failed
no_failed_put fault memory is = elim memory [
  | inl for_run ↦ absurd cc
  | inr for_text ↦ absurd cc
]

module _ {S : Type 0} (contents : S → Option (List ℕ)) (failures : S → ℕ) (s : Scenario) where
  -- nothing was answered
  pub unbegun : (first : State i64_values) (IsNext : Request → Type 0) (fault : ServeFault) (sink : S)
      → fault ≢ write_failed → StopsAfter contents failures s [] first IsNext fault sink sink
  unbegun first IsNext fault sink other = inl (other, refl, Appends-nil (contents sink))

  pub trace_unbegun : (fault : ReportFault) (sink : S) → serve_fault.Report fault ≢ write_failed
      → EndsTrace contents failures s fault sink sink
  trace_unbegun fault sink other = record {
    told = [];
    later = own_requests s;
    are = refl;
    stops = unbegun (state_of s) _ (serve_fault.Report fault) sink other;
  }

  module _ {X : Type 0} (meaning : X → Meaning ℤ) (old now : S) (e : EngineOf X ℤ) (k : ℕ)
      (far : AnsweredSoFar contents failures meaning s (state_of s) (map run (take k s.frames)) old now e) where
    -- the state so far
    abbrev pub here : State i64_values
    here = after_requests (map run (take k s.frames)) (state_of s)

    -- the next frame ended in a fault
    pub trace_ends : (f : Frame ℤ) (fault : ReportFault) (new : S) → k < length s.frames → f ≡ get_or s.frames k f
        → IsPut contents failures (answer_of s (run f) here) (Err fault) now new
        → EndsTrace contents failures s fault old new
    trace_ends f fault new lt is put = record {
      told = map run (take k s.frames);
      later = run f ∷ (map run (drop (k + 1) s.frames) ++ readers ∷ []);
      are = own_split s k f lt is;
      stops = stopped_put contents failures meaning s (state_of s) (map run (take k s.frames)) old now e far _ (run f)
          (_, refl) fault new put;
    }

    module _ (all : k ≡ length s.frames) where
      all_told : own_requests s ≡ map run (take k s.frames) ++ readers ∷ []
      all_told = rw (all, take-length) refl

      -- the readers weren't told
      pub trace_unread : (fault : ReportFault) → serve_fault.Report fault ≢ write_failed
          → EndsTrace contents failures s fault old now
      trace_unread fault other = record {
        told = map run (take k s.frames);
        later = readers ∷ [];
        are = all_told;
        stops = stopped contents failures meaning s (state_of s) (map run (take k s.frames)) old now e far _
            (serve_fault.Report fault) other;
      }

      -- their line ended in a fault
      pub trace_readers : (fault : ReportFault) (new : S)
          → IsPut contents failures (answer_of s readers here) (Err fault) now new
          → EndsTrace contents failures s fault old new
      trace_readers fault new put = record {
        told = map run (take k s.frames);
        later = readers ∷ [];
        are = all_told;
        stops = stopped_put contents failures meaning s (state_of s) (map run (take k s.frames)) old now e far _ readers
            ([], refl) fault new put;
      }

      -- or was put
      pub trace_done : (came : Result (Unit {0}) ReportFault) (new : S)
          → ((frames : List (Frame ℤ)) → IsCompleteRun frames (state_of s))
          → IsPut contents failures (answer_of s readers here) came now new
          → OnOk came (IsTraced s (contents old) (contents new))
          × ((fault : ReportFault) → came ≡ Err fault → EndsTrace contents failures s fault old new)
      trace_done (Ok u) new complete put = (
        record {
          complete = complete s.frames;
          answered = rw (all_told, answers_more s (map run (take k s.frames)) readers (state_of s))
              (Appends-trans (contents old) (contents now) (contents new)
              (texts_of s (map run (take k s.frames)) (state_of s)) (answer_of s readers here) far.took put.ok);
        },
        λ fault is. absurd cc,
      )
      trace_done (Err why) new complete put =
          (tt, λ fault is. trace_readers fault new (rw is at put))

  -- ---- the end of an input

  module _ {X : Type 0} (meaning : X → Meaning ℤ) (old now : S) (e : EngineOf X ℤ) (requests : List Request)
      (far : AnsweredSoFar contents failures meaning s (after_own s) requests old now e) where
    -- all lines were answered, and the readers told
    pub served : (known : Option (List ℕ)) (new : S) → ((frames : List (Frame ℤ)) → IsCompleteRun frames (state_of s))
        → IfSome known (λ bytes. AllZip (AsksFor s) (lines_of bytes) requests)
        → Appends (contents now) (contents new) (answer_of s readers (after_requests requests (after_own s)))
        → IfSome known (λ bytes. IsAnswered s bytes (contents old) (contents new))
    served None new complete asked puts = tt
    served (Some bytes) new complete asked puts = record {
      requests = requests;
      asked = asked;
      complete = complete (s.frames ++ frames_among requests);
      answered = rw (answers_more s requests readers (after_own s)) (Appends-trans (contents old) (contents now) (contents new)
          (texts_of s requests (after_own s)) (answer_of s readers (after_requests requests (after_own s))) far.took puts);
    }
