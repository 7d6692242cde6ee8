-- A loop in which a host gives each frame by the log of the one before it.
use Rattle.std.specs.Prelude.{◌≡◌, ◌⊎◌, ℕ, ◌<◌, ◌≤◌, List, [], ◌∷◌, ◌++◌, length, Option, Some, None}
use Rattle.msg_system.specs.Prelude.{Meaning}
use Rattle.msg_frames.specs.{declared.frame.Frame.Frame, declared.log.Log.Log}
use Rattle.msg_frames.specs.Prelude.{State}
use Rattle.msg_exec.specs.{declared.engine.EngineOf.EngineOf, Engines.EngineStands, Engines.HasRunFrames, Engines.HasRunSince, Engines.IsSpoiled, Engines.PostsFit, Engines.frame_number}
use Rattle.msg_world.specs.Prelude.{Values}

module _ {V : Type 0} where
  -- the log that a host is told next: that of the last frame; `log` if there was none since
  abbrev pub last_log : Option (Log V) → List (Log V) → Option (Log V)
  last_log log [] = log
  last_log log (next ∷ logs) = last_log (Some next) logs

module _ {V H : Type 0} (gives : H → Option (Log V) → Option (Frame V) → H → Type 0) where
  -- The host gave these frames one by one, the first of them as it was told `log`, and each later
  -- one as it was told the log of the frame before. Then it was `after`.
  abbrev pub HostHasGiven : Option (Log V) → H → List (Frame V) → List (Log V) → H → Type 0
  HostHasGiven log host [] [] after = after ≡ host
  HostHasGiven log host (f ∷ frames) (next ∷ logs) after =
      (then : H) × gives host log (Some f) then × HostHasGiven (Some next) then frames logs after
  HostHasGiven log host _ _ after = ⊥

module _ {S H V : Type 0} (values : Values V) (meaning : S → Meaning V)
    (gives : H → Option (Log V) → Option (Frame V) → H → Type 0) where
  -- The engine ran the frames that the host gave it one by one, `most` at most.
  pub record HasRunFor (most : ℕ) (old : H) (e : EngineOf S V) (now : H)
      (f : EngineOf S V) : Type 0 where
    pub frames : List (Frame V)
    pub logs : List (Log V)
    pub few : length frames ≤ most
    pub given : HostHasGiven gives None old frames logs now
    -- the logs that the host was told are those of one thread, turn by turn
    pub ran : (s : State values) → EngineStands meaning e s
        → HasRunFrames meaning frames s [] logs f
    -- whatever it had run before
    pub since : (s : State values) (before : List (Frame V)) (earlier : List (Log V))
        → HasRunSince meaning s before earlier e
        → HasRunSince meaning s (before ++ frames) (earlier ++ logs) f

  -- It ran all of them: so many that it was to run no more, or the host gave none after these.
  pub record HasRunLoop (most : ℕ) (old : H) (e : EngineOf S V) (new : H)
      (f : EngineOf S V) : Type 0 where
    pub now : H
    pub ran : HasRunFor most old e now f
    pub ended : ((length ran.frames ≡ most) × (new ≡ now))
        ⊎ ((length ran.frames < most) × gives now (last_log None ran.logs) None new)

  -- It ran frames until the host gave one with a post to a type that the world hasn't got.
  pub record StoppedAtUnknownType (most : ℕ) (old : H) (e : EngineOf S V) (new : H)
      (f : EngineOf S V) : Type 0 where
    pub now : H
    pub ran : HasRunFor most old e now f
    pub more : length ran.frames < most
    pub frame : Frame V
    pub given : gives now (last_log None ran.logs) (Some frame) new
    pub misfit : ¬ PostsFit f frame

  -- It ran frames until there was no memory for the one that the host gave, which it didn't count.
  -- Before that it was `last`.
  pub record HasRunShort (most : ℕ) (old : H) (e : EngineOf S V) (new : H)
      (f : EngineOf S V) : Type 0 where
    pub last : EngineOf S V
    pub now : H
    pub ran : HasRunFor most old e now last
    pub more : length ran.frames < most
    pub frame : Frame V
    pub given : gives now (last_log None ran.logs) (Some frame) new
    pub fits : PostsFit last frame
    pub counted : frame_number f ≡ frame_number last
    pub spoiled : IsSpoiled f

  -- It ran frames until the host refused to give one.
  pub record HasMetRefusal (refuses : H → Option (Log V) → H → Type 0) (most : ℕ) (old : H)
      (e : EngineOf S V) (new : H) (f : EngineOf S V) : Type 0 where
    pub now : H
    pub ran : HasRunFor most old e now f
    pub more : length ran.frames < most
    pub refused : refuses now (last_log None ran.logs) new

module _ {V H : Type 0} (gives : H → Option (Log V) → Option (Frame V) → H → Type 0) where
  -- What the host was, and what it was told, settle what it gives and what it is then.
  abbrev pub IsSettled : Type 0
  IsSettled = (old : H) (log : Option (Log V)) (one other : Option (Frame V)) (new then : H)
      → gives old log one new → gives old log other then → (one ≡ other) × (new ≡ then)

module _ {S H V : Type 0} (values : Values V) (meaning : S → Meaning V)
    (gives : H → Option (Log V) → Option (Frame V) → H → Type 0) where
  -- Two engines that stand for one state, and run to the end before one host, run the same frames,
  -- with equal logs, and leave the host the same.
  abbrev pub LoopsAgree : Type 0
  LoopsAgree = (most : ℕ) (host new then : H) (a b e f : EngineOf S V) (s : State values)
      → EngineStands meaning a s → EngineStands meaning e s
      → (one : HasRunLoop values meaning gives most host a new b)
      → (other : HasRunLoop values meaning gives most host e then f)
      → (one.ran.frames ≡ other.ran.frames) × (one.ran.logs ≡ other.ran.logs) × (new ≡ then)
