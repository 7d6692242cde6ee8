-- What a report leaves: which frames were run, what the sink took, and what the engine stands for.
use Rattle.std.specs.Prelude.{◌≡◌, ◌≢◌, ◌⊎◌, ℕ, ◌<◌, ◌-◌, ◌^◌, min, List, length, take, Option, Result, Err, OnErr, OnOk, ℤ}
use Rattle.std.specs.Io.KnownBytes.{Appends}
use Rattle.msg_system.specs.Prelude.{Meaning}
use Rattle.msg_frames.specs.Prelude.{IsCompleteRun, State, run}
use Rattle.msg_exec.specs.Prelude.{IsSpoiled, EngineStands, frame_number}
use Rattle.msg_exec.specs.declared.engine.EngineOf.{EngineOf}
use Rattle.msg_frames.specs.declared.log.Log.{Log}
use Rattle.msg_scenario.specs.ReportText.{frames_text, readers_text, report_text, text_so_far}
use Rattle.msg_scenario.specs.declared.reports.accounts.Readers.{Readers}
use Rattle.msg_reading.specs.Prelude.{state_of}
use Rattle.msg_json.specs.Prelude.{AppendsAtLeast, AppendsPrefix, one_failure_more}
use Rattle.msg_json.specs.declared.report_fault.ReportFault.{ReportFault}
use Rattle.msg_json.specs.declared.report_fault.ReportFault.TheVariants as report_fault
use Rattle.msg_reading.specs.declared.scenario.Scenario.{Scenario}
use Rattle.msg_world.specs.Prelude.{i64_values}
use Rattle.msg_world.specs.declared.run_fault.RunFault.TheVariants as run_fault

-- the first frames of a scenario, as many as there are logs, have these logs and leave this state
abbrev pub HasRunFirst : Scenario → List (Log ℤ) → State i64_values → Type 0
HasRunFirst s logs state = (logs ≡ (run (take (length logs) s.frames) (state_of s)).logs)
    × (state ≡ (run (take (length logs) s.frames) (state_of s)).state)

-- All frames were run, with all that a run comes to, and the sink took the report of the scenario,
-- and no more.
pub record IsReported (how : Readers) (s : Scenario) (before after : Option (List ℕ)) : Type 0 where
  pub complete : IsCompleteRun s.frames (state_of s)
  pub printed : Appends before after (report_text s (run s.frames (state_of s)).logs
      (readers_text s how (run s.frames (state_of s)).state))

-- the report ended in a text: the sink failed, or there was no memory to make the text
abbrev pub EndsInText : Result (Unit {0}) ReportFault → Type 0
EndsInText came = (came ≡ Err report_fault.Write) ⊎ (came ≡ Err report_fault.NoMemory)

module _ {S : Type 0} (contents : S → Option (List ℕ)) (failures : S → ℕ) (how : Readers)
    (s : Scenario) where
  -- What a report leaves that came to this: how far the scenario was run, and what the sink took.
  -- It names neither the engine nor its workers.
  pub record LeavesReport (came : Result (Unit {0}) ReportFault) (old new : S) : Type 0 where
    -- what the frames that were run logged, which are the first ones
    pub logs : List (Log ℤ)
    -- the state that they left
    pub state : State i64_values
    pub is_run : HasRunFirst s logs state
    -- if nothing failed, all frames were run, and the sink took the report
    pub ok : OnOk came (IsReported how s (contents old) (contents new))
    -- after any fault it took a front of their text, which has the readers' lines after all frames
    pub prefix : OnErr came
        (AppendsPrefix (contents old) (contents new)
        (text_so_far s logs (readers_text s how state)))
    -- if a frame or the accounts had no memory, it took exactly the text of the frames before
    pub run : came ≡ Err (report_fault.Run run_fault.NoMemory)
        → Appends (contents old) (contents new) (frames_text s 1 s.frames logs)
    -- if a report ends in a text, the sink took all texts before that of the last frame
    pub earlier : EndsInText came → AppendsAtLeast (contents old) (contents new)
        (frames_text s 1 s.frames (take (length logs - 1) logs))
    -- and that is where it ended; or else it had them all, and ended in the readers' lines
    pub last : EndsInText came
        → AppendsPrefix (contents old) (contents new) (frames_text s 1 s.frames logs)
        ⊎ ((length logs ≡ length s.frames)
        × AppendsAtLeast (contents old) (contents new) (frames_text s 1 s.frames logs))
    -- the engine of a report has a run fault for want of memory alone
    pub not_spoiled : came ≢ Err (report_fault.Run run_fault.Spoiled)
    pub no_bad_order : came ≢ Err (report_fault.Run run_fault.BadOrder)
    -- one put failed if the report says so, and else none
    pub write : came ≡ Err report_fault.Write → failures new ≡ one_failure_more (failures old)
    pub quiet : came ≢ Err report_fault.Write → failures new ≡ failures old

module _ {S : Type 0} {contents : S → Option (List ℕ)} {failures : S → ℕ} {how : Readers}
    {s : Scenario} {came : Result (Unit {0}) ReportFault} {old new : S} {X : Type 0}
    (meaning : X → Meaning ℤ) where
  -- How such a report leaves the engine that made it.
  pub record LeavesEngine (left : LeavesReport contents failures how s came old new)
      (before after : EngineOf X ℤ) : Type 0 where
    -- it stood for the first state of the scenario
    pub begun : EngineStands meaning before (state_of s)
    -- if nothing failed, it stands for the last one
    pub ok : OnOk came (EngineStands meaning after (run s.frames (state_of s)).state)
    -- if the report ended in a text, it stands for the state that the frames so far left
    pub stopped : EndsInText came → EngineStands meaning after left.state
    -- after any fault it counts the frames that the report tells of
    pub counted : OnErr came (frame_number after ≡ min (length left.logs) (2 ^ 32 - 1))
    -- want of memory in a frame spoils it; in the accounts it doesn't
    pub run : came ≡ Err (report_fault.Run run_fault.NoMemory)
        → (IsSpoiled after × (length left.logs < length s.frames))
        ⊎ (EngineStands meaning after left.state × (length left.logs ≡ length s.frames))
