-- A report while it is made: the words of private functions.
use Rattle.std.specs.Prelude.{◌≡◌, ℕ, ◌-◌, ◌^◌, List, Option, length, min, take, ℤ}
use Rattle.std.specs.Io.KnownBytes.{Appends}
use Rattle.msg_system.specs.Prelude.{Meaning}
use Rattle.msg_frames.specs.Prelude.{State, run}
use Rattle.msg_frames.specs.declared.log.Log.{Log}
use Rattle.msg_exec.specs.Prelude.{EngineStands, IsSpoiled, frame_number}
use Rattle.msg_exec.specs.declared.engine.EngineOf.{EngineOf}
use Rattle.msg_reading.specs.Prelude.{state_of}
use Rattle.msg_reading.specs.declared.scenario.Scenario.{Scenario}
use Rattle.msg_scenario.specs.ReportText.{frames_text}
use Rattle.msg_scenario.specs.declared.reports.put.Reporter.{Reporter}
use Rattle.msg_world.specs.Prelude.{i64_values}

-- the same report, so many frames of it done
pub record IsAfter (count : ℕ) (old new : Reporter) : Type 0 where
  pub scenario : new.scenario ≡ old.scenario
  pub readers : new.readers ≡ old.readers
  pub lines : new.lines ≡ old.lines
  pub reported : new.reported ≡ count

module _ {S : Type 0} (contents : S → Option (List ℕ)) (failures : S → ℕ)
    {X : Type 0} (meaning : X → Meaning ℤ) (s : Scenario) (first : EngineOf X ℤ) where
  -- after the first k frames: they were run, their text was put, and no put failed
  pub record ReportSoFar (k : ℕ) (old now : S) (e : EngineOf X ℤ) : Type 0 where
    pub begun : EngineStands meaning first (state_of s)
    pub logs : List (Log ℤ)
    pub state : State i64_values
    pub as_many : length logs ≡ k
    pub is_run : (logs ≡ (run (take k s.frames) (state_of s)).logs)
        × (state ≡ (run (take k s.frames) (state_of s)).state)
    pub frames : state.frames ≡ k
    pub types : state.types ≡ length s.types
    pub printed : Appends (contents old) (contents now) (frames_text s 1 s.frames logs)
    pub quiet : failures now ≡ failures old
    pub stands : EngineStands meaning e state
    pub counted : frame_number e ≡ min k (2 ^ 32 - 1)
    pub alive : ¬ IsSpoiled e
