-- When an engine stands for a state, and what its calls do.
use Rattle.std.specs.Prelude.{◌≡◌, ◌⊎◌, ℕ, ◌<◌, [], ◌∷◌, ◌++◌, All, List, length, take, Option, option_map, IsNone, IsSomeAnd, IfSome}
use Rattle.std.specs.List.{AllZip}
use Rattle.msg_world.specs.Prelude.{Parts, Values}
use Rattle.msg_system.specs.Prelude.{Meaning}
use Rattle.msg_exec.specs.{declared.engine.EngineOf.EngineOf, Cores.CoreStands, Cores.frame_count}
use Rattle.msg_frames.specs.{declared.frame.Frame.Frame, declared.log.Log.Log}
use Rattle.msg_frames.specs.Prelude.{IsCompleteRun, IsLawfulFor, State, TellsTheSame, answers_in, frame, run, turn_order_in}

module _ {S V : Type 0} where
  -- A call that runs a frame ended for want of memory: the world and the systems are gone.
  abbrev pub IsSpoiled : EngineOf S V → Type 0
  IsSpoiled e = IsNone e.core

  -- how many frames it has counted
  abbrev pub frame_number : EngineOf S V → ℕ
  frame_number e = e.frames

  -- its world; none if it is spoiled
  abbrev pub world_of : EngineOf S V → Option (Parts V)
  world_of e = option_map (λ c. c.lender.world) e.core

  -- each post is to a type of its world
  abbrev pub PostsFit : EngineOf S V → Frame V → Type 0
  PostsFit e frame = IfSome e.core (λ c. All (λ p. p.0 < length c.lender.world.types) frame.posts)

module _ {S V : Type 0} {values : Values V} (meaning : S → Meaning V) where
  -- Part by part, the engine is what the state says.
  pub record EngineStands (e : EngineOf S V) (s : State values) : Type 0 where
    pub core : IsSomeAnd e.core (λ c. CoreStands meaning c s)
    pub frames : frame_number e ≡ frame_count s

module _ {S V : Type 0} (values : Values V) (meaning : S → Meaning V) where
  -- An engine as `new` makes it, and as its calls leave it: it stands for a state, or it is
  -- spoiled.
  abbrev pub IsEngine : EngineOf S V → Type 0
  IsEngine e = IsSpoiled e ⊎ ((s : State values) × EngineStands meaning e s)

module _ {S V : Type 0} {values : Values V} (meaning : S → Meaning V) where
  -- From the state s the engine ran a frame: the log is the frame's on one thread, the run of that
  -- frame is complete, and the engine stands for the state that it leaves. What a complete run says
  -- of steps and of entries it says of the log too: a run's log has their replies
  -- (`AllAreAnswered`) and tells the entries (`LogsTellEntries`).
  pub record HasRunFrame (f : Frame V) (s : State values) (log : Log V)
      (e : EngineOf S V) : Type 0 where
    pub tells : log ≡ (frame f s).log
    pub complete : IsCompleteRun (f ∷ []) s
    pub stands : EngineStands meaning e (frame f s).state

  -- From the state s the engine replayed a frame in this order, which is lawful: the log tells the
  -- same as the frame's, and each system what the frame tells it. The run of that frame is
  -- complete, and the engine stands for the state that it leaves.
  pub record HasReplayed (f : Frame V) (order : List ℕ) (s : State values) (log : Log V)
      (e : EngineOf S V) : Type 0 where
    pub lawful : IsLawfulFor f s order
    pub tells : TellsTheSame log (frame f s).log
    pub in_order : turn_order_in log ≡ order
    pub alike : (i : ℕ) → answers_in i (log ∷ []) ≡ answers_in i ((frame f s).log ∷ [])
    pub complete : IsCompleteRun (f ∷ []) s
    pub stands : EngineStands meaning e (frame f s).state

  -- From the state s the engine ran frames: it appended the logs of their run, which is complete,
  -- and stands for the state that is left.
  pub record HasRunFrames (frames : List (Frame V)) (s : State values) (before after : List (Log V))
      (e : EngineOf S V) : Type 0 where
    pub appended : after ≡ before ++ (run frames s).logs
    pub complete : IsCompleteRun frames s
    pub stands : EngineStands meaning e (run frames s).state

  -- From the state s the engine ran the first of the frames, `ran` of them, and then there was no
  -- memory: their logs were appended, and it counted them.
  pub record HasRunSome (frames : List (Frame V)) (s : State values) (before after : List (Log V))
      (e : EngineOf S V) : Type 0 where
    pub ran : ℕ
    pub few : ran < length frames
    pub appended : after ≡ before ++ (run (take ran frames) s).logs
    pub counted : frame_number e ≡ frame_count (run (take ran frames) s).state
    pub spoiled : IsSpoiled e

  -- What is left of a life since the state s, in which these frames were run or replayed, in one
  -- call or in many: how the logs and the engine stand to the run of these frames, not what was
  -- called. (`HasRunFrames` says exactly what a call appended that ran frames.)
  pub record HasRunSince (s : State values) (frames : List (Frame V)) (logs : List (Log V))
      (e : EngineOf S V) : Type 0 where
    -- each log tells the same as that of its frame, but may have the turns in another order, as
    -- that of a replay does; if no frame was replayed, they are equal (`frames_run_one_by_one`)
    pub tell : AllZip TellsTheSame logs (run frames s).logs
    -- each run from s is complete, whatever its frames
    pub complete : (these : List (Frame V)) → IsCompleteRun these s
    -- and the engine stands for the state that these frames leave
    pub stands : EngineStands meaning e (run frames s).state
