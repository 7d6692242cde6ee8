-- What the lines of an input are answered, and what a run tells of the frames of its file.
use Rattle.std.specs.Prelude.{◌≡◌, ◌≢◌, ◌⊎◌, ℕ, ◌-◌, ◌^◌, ◌≤◌, min, All, IsTrue, List, [], ◌∷◌, ◌++◌, Option, Some, length, map, ℤ}
use Rattle.std.specs.List.{AllZip}
use Rattle.std.specs.Io.KnownBytes.{Appends}
use Rattle.msg_frames.specs.Prelude.{IsCompleteRun, State, accounts_of, writer_accounts_of, frame, run as run_of}
use Rattle.msg_frames.specs.declared.frame.Frame.{Frame}
use Rattle.msg_log_json.specs.Prelude.{frame_line, readers_line}
use Rattle.msg_reading.specs.Prelude.{is_name, state_of}
use Rattle.msg_reading.specs.declared.scenario.Scenario.{Scenario}
use Rattle.msg_serve.specs.{Lines.lines_of, Requests.AsksFor, Requests.Request, Requests.readers, Requests.refused, Requests.run}
use Rattle.msg_serve.specs.declared.serve_fault.ServeFault.{ServeFault}
use Rattle.msg_serve.specs.declared.serve_fault.ServeFault.TheVariants as serve_fault
use Rattle.msg_json.specs.Prelude.{Text, one_failure_more}
use Rattle.msg_json.specs.declared.report_fault.ReportFault.{ReportFault}
use Rattle.msg_json.specs.declared.report_fault.ReportFault.TheVariants as report_fault
use Rattle.msg_world.specs.Prelude.{i64_values}
use Rattle.msg_scenario.specs.FromBytes.{IsOfScenario}
use Rattle.msg_scenario.specs.declared.answer_fault.AnswerFault.{AnswerFault}
use Rattle.msg_scenario.specs.declared.answer_fault.AnswerFault.TheVariants as answer

-- ---- requests and answers

-- the number of the last frame that was run, as the engine counts it: it stays at the greatest
-- number
abbrev pub number_of : State i64_values → ℕ
number_of s = min s.frames (2 ^ 32 - 1)

-- the state after a request: a frame leaves another one
abbrev pub after_request : Request → State i64_values → State i64_values
after_request (run f) now = (frame f now).state
after_request _ now = now

-- the state after requests one after another
abbrev pub after_requests : List Request → State i64_values → State i64_values
after_requests [] now = now
after_requests (request ∷ requests) now = after_requests requests (after_request request now)

-- the answer of a request
abbrev pub answer_of : Scenario → Request → State i64_values → Text
answer_of s (run f) now =
    let done = frame f now in frame_line s (number_of done.state) f done.log done.state.world
answer_of s readers now = readers_line s (accounts_of now) (writer_accounts_of now) now
answer_of s (refused text) now = text

-- the texts that answer requests one after another
abbrev pub texts_of : Scenario → List Request → State i64_values → Text
texts_of s [] now = []
texts_of s (request ∷ requests) now =
    answer_of s request now ++ texts_of s requests (after_request request now)

-- the frames among requests
abbrev pub frames_among : List Request → List (Frame ℤ)
frames_among [] = []
frames_among (run f ∷ requests) = f ∷ frames_among requests
frames_among (_ ∷ requests) = frames_among requests

-- What is left after requests is what the frames among them leave, one after the other: accounts
-- and refusals change nothing.
abbrev pub OnlyFramesChange : Type 0
OnlyFramesChange = (requests : List Request) (now : State i64_values)
    → after_requests requests now ≡ (run_of (frames_among requests) now).state

-- ---- the frames of the file

-- what a run of the file answers: each of its frames, and then the readers
abbrev pub own_requests : Scenario → List Request
own_requests s = map run s.frames ++ readers ∷ []

-- the state after the frames of the file
abbrev pub after_own : Scenario → State i64_values
after_own s = (run_of s.frames (state_of s)).state

-- All frames of the file were run, with all that a run comes to, and the sink took the line of
-- each, and then that of the readers.
pub record IsTraced (s : Scenario) (before after : Option (List ℕ)) : Type 0 where
  pub complete : IsCompleteRun s.frames (state_of s)
  pub answered : Appends before after (texts_of s (own_requests s) (state_of s))

-- ---- the lines of an input

-- The input was answered to its end: each line by one line, in the run of the file's frames and of
-- those among the lines, with all that a run comes to; and then the readers were told.
pub record IsAnswered (s : Scenario) (input : List ℕ)
    (before after : Option (List ℕ)) : Type 0 where
  pub requests : List Request
  pub asked : AllZip (AsksFor s) (lines_of input) requests
  pub complete : IsCompleteRun (s.frames ++ frames_among requests) (state_of s)
  pub answered : Appends before after (texts_of s (requests ++ readers ∷ []) (after_own s))

-- ---- faults

-- the fault of a put that failed
abbrev pub write_failed : ServeFault
write_failed = serve_fault.Report report_fault.Write

-- after the lines that were answered this is asked for next: by the next line, or at the end
abbrev pub AsksNext : Scenario → List Text → Request → Type 0
AsksNext s [] next = next ≡ readers
AsksNext s (line ∷ _) next = AsksFor s line next

-- An input that had these bytes lost some of one line at most, and none whole if the fault is that
-- it failed.
abbrev pub TakesInLine : List ℕ → Option (List ℕ) → ServeFault → Type 0
TakesInLine bytes after fault =
    (taken : Text) × (rest : List ℕ) × (after ≡ Some rest) × (bytes ≡ taken ++ rest)
    × (length (lines_of taken) ≤ 1)
    × (fault ≡ serve_fault.Input → All (λ byte. byte ≢ 10) taken)

module _ {S : Type 0} (contents : S → Option (List ℕ)) (failures : S → ℕ) (s : Scenario) where
  -- From a state on these requests were answered, and then there was this fault: the sink took
  -- their answers without a failure; or a put failed, and it took also a front of the answer of a
  -- request that came next.
  abbrev pub StopsAfter : List Request → State i64_values → (Request → Type 0) → ServeFault
      → S → S → Type 0
  StopsAfter requests first IsNext fault old new =
      ((fault ≢ write_failed) × (failures new ≡ failures old)
      × Appends (contents old) (contents new) (texts_of s requests first))
      ⊎ ((fault ≡ write_failed) × (failures new ≡ one_failure_more (failures old))
      × ((next : Request) × IsNext next × (front : Text) × (rest : Text)
      × (answer_of s next (after_requests requests first) ≡ front ++ rest)
      × Appends (contents old) (contents new) (texts_of s requests first ++ front)))

  -- The run of the file ended in a fault: the first of its requests were answered.
  pub record EndsTrace (fault : ReportFault) (old new : S) : Type 0 where
    pub told : List Request
    pub later : List Request
    pub are : own_requests s ≡ told ++ later
    pub stops : StopsAfter told (state_of s)
        (λ next. (rest : List Request) × (later ≡ next ∷ rest)) (serve_fault.Report fault) old new

  -- The serving of an input ended in a fault: its first lines were answered, and of those after
  -- them at most one was taken from it. So each answer is put before the next line is asked for.
  pub record EndsServing (input : List ℕ) (after : Option (List ℕ)) (fault : ServeFault)
      (old new : S) : Type 0 where
    pub lines : List Text
    pub later : List ℕ
    pub are : lines_of input ≡ lines ++ lines_of later
    pub taken : TakesInLine later after fault
    pub requests : List Request
    pub asked : AllZip (AsksFor s) lines requests
    pub stops : StopsAfter requests (after_own s) (AsksNext s (lines_of later)) fault old new

-- ---- laws

-- the scenario with more frames after its own
abbrev pub with_frames : Scenario → List (Frame ℤ) → Scenario
with_frames s more = record s { frames = s.frames ++ more }

-- What lines that are frames are answered is what a run of the file tells if it has these frames
-- after its own, but for the lines of its own frames.
abbrev pub ServesAsRunsTell : Type 0
ServesAsRunsTell = (s : Scenario) (more : List (Frame ℤ))
    → texts_of (with_frames s more) (own_requests (with_frames s more)) (state_of s)
    ≡ texts_of s (map run s.frames) (state_of s)
    ++ texts_of s (map run more ++ readers ∷ []) (after_own s)

-- the names of a scenario are good ones, as all that `Name::new` makes
abbrev pub IsNamed : Scenario → Type 0
IsNamed s = All (λ named. IsTrue (is_name named.0)) s.types
    × All (λ named. IsTrue (is_name named.0)) s.resources
    × All (λ system. IsTrue (is_name system.name)) s.systems

-- There is one line of answer for each line that asks for something.
abbrev pub EachLineHasOneAnswer : Type 0
EachLineHasOneAnswer = (s : Scenario) (lines : List Text) (requests : List Request)
    (now : State i64_values) → IsNamed s → AllZip (AsksFor s) lines requests
    → length (lines_of (texts_of s requests now)) ≡ length lines

-- A scenario file has one trace, whoever runs it, on however many workers.
abbrev pub EachFileHasOneTrace : Type 0
EachFileHasOneTrace = (bytes before one other : List ℕ)
    → IsOfScenario bytes (λ scenario. IsTraced scenario (Some before) (Some one))
    → IsOfScenario bytes (λ scenario. IsTraced scenario (Some before) (Some other))
    → one ≡ other

-- why a file wasn't answered to the end, by what its serving came to
abbrev pub served_fault : ServeFault → AnswerFault
served_fault serve_fault.Input = answer.Input
served_fault (serve_fault.Report fault) = answer.Report fault
