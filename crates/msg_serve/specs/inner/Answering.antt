-- What an answer is while lines are served: the words of private functions.
use Rattle.std.specs.Prelude.{◌≡◌, ◌⊎◌, ℕ, ℤ, List, ◌++◌, Option, Some, Result, Ok, Err}
use Rattle.std.specs.Io.KnownBytes.{Appends}
use Rattle.std.specs.List.{AllZip}
use Rattle.serde_json.specs.Data.{Data}
use Rattle.msg_exec.specs.Prelude.{EngineStands}
use Rattle.msg_exec.specs.declared.engine.EngineOf.{EngineOf}
use Rattle.msg_frames.specs.Prelude.{SameSystems, State}
use Rattle.msg_json.specs.Prelude.{Reading, Text}
use Rattle.msg_json.specs.declared.fault.Fault.{Fault}
use Rattle.msg_log_json.specs.Prelude.{IsPlain, refused_line}
use Rattle.msg_reading.specs.Prelude.{IsRunnable, state_of}
use Rattle.msg_reading.specs.declared.scenario.Scenario.{Scenario}
use Rattle.msg_serve.specs.declared.server.Server.{Server}
use Rattle.msg_serve.specs.declared.request.Request.{Request as Asked}
use Rattle.msg_serve.specs.declared.request.Request.TheVariants as asked
use Rattle.msg_serve.specs.{Lines.lines_of, Requests.AsksFor, Requests.Request, Requests.readers, Requests.refused, Requests.request_of, Requests.run}
use Rattle.msg_serve.specs.Served.{after_request, after_requests, answer_of, texts_of}
use Rattle.msg_system.specs.Prelude.{Meaning}
use Rattle.msg_json.specs.declared.report_fault.ReportFault.{ReportFault}
use Rattle.msg_json.specs.declared.report_fault.ReportFault.TheVariants as report_fault
use Rattle.msg_world.specs.Prelude.{i64_values}
use Rattle.msg_world.specs.declared.run_fault.RunFault.TheVariants as run_fault

-- there was no memory: for a frame or for the accounts, or for an answer
abbrev pub IsWantOfMemory : ReportFault → Type 0
IsWantOfMemory fault =
    (fault ≡ report_fault.Run run_fault.NoMemory) ⊎ (fault ≡ report_fault.NoMemory)

-- a request that was read
abbrev pub request_seen : Result Asked Fault → Reading Request
request_seen (Ok (asked.Frame f)) = Ok (run f)
request_seen (Ok asked.Readers) = Ok readers
request_seen (Err e) = Err e

-- the value of a line asks for this
abbrev pub ValueAsksFor : Scenario → Data → Request → Type 0
ValueAsksFor s d (refused text) =
    (e : Fault) × (request_of s d ≡ Err e)
    × ((why : Text) × IsPlain why × (text ≡ refused_line e why))
ValueAsksFor s d request = request_of s d ≡ Ok request

-- the first lines ask for these, and what is left of the input has the others
pub record AreAsked (s : Scenario) (input : List ℕ) (after : Option (List ℕ))
    (requests : List Request) : Type 0 where
  pub lines : List Text
  pub rest : List ℕ
  pub left : after ≡ Some rest
  pub are : lines_of input ≡ lines ++ lines_of rest
  pub asked : AllZip (AsksFor s) lines requests

module _ {X : Type 0} (meaning : X → Meaning ℤ) where
  -- The scenario can be run, and the engine stands for a state that has its systems, and as many
  -- types and resources.
  pub record Serves (server : Server X) : Type 0 where
    pub runnable : IsRunnable server.scenario.now
    pub now : State i64_values
    pub stands : EngineStands meaning server.engine now
    pub same : SameSystems (state_of server.scenario.now) now

  -- the text is the answer of a request to this state, and the engine stands for the state after it
  pub record IsAnswer (s : Scenario) (request : Request) (now : State i64_values)
      (after : Server X) : Type 0 where
    pub text : after.text.items ≡ answer_of s request now
    pub stands : EngineStands meaning after.engine (after_request request now)

  -- it is that, whatever state the engine stood for
  abbrev pub Answers : Request → Server X → Server X → Type 0
  Answers request before after = (now : State i64_values) → EngineStands meaning before.engine now
      → IsAnswer before.scenario.now request now after

module _ {S : Type 0} (contents : S → Option (List ℕ)) (failures : S → ℕ) {X : Type 0}
    (meaning : X → Meaning ℤ) (s : Scenario) (first : State i64_values) where
  -- from a state on these requests were answered, and no put failed
  pub record AnsweredSoFar (requests : List Request) (old now : S) (e : EngineOf X ℤ)
      : Type 0 where
    pub took : Appends (contents old) (contents now) (texts_of s requests first)
    pub quiet : failures now ≡ failures old
    pub stands : EngineStands meaning e (after_requests requests first)
