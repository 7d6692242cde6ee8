-- Calls in a row: what the engine did since a state is what it did before, and then what the call did.
use Rattle.std.proofs.Common.{ap, List, [], ◌∷◌, ◌++◌, ◌≡◌, append_assoc, append-nil, refl, sym}
use Rattle.std.specs.List.{AllZip}
use Rattle.std.proofs.lemmas.List.{Sorted.IsPermutation-refl}
use Rattle.msg_system.specs.Prelude.{Meaning}
use Rattle.msg_exec.specs.Prelude.{EngineOf, EngineStands, HasRunFrame, HasRunFrames, HasRunSince}
use Rattle.msg_frames.specs.{declared.frame.Frame.Frame, declared.log.Log.Log}
use Rattle.msg_frames.specs.Prelude.{IsSoundState, State, TellsTheSame, run}
use Rattle.msg_frames.proofs.{Functions.run_append, ReaderOverRun.runs_are_complete}
use Rattle.msg_exec.proofs.EngineRunsFrames.{is_sound}
use Rattle.msg_world.specs.Prelude.{Values}

module _ {V : Type 0} where
  pub each_itself : (logs : List (Log V)) → AllZip TellsTheSame logs logs
  each_itself [] = tt
  each_itself (log ∷ logs) = (record { posts = refl; turns = IsPermutation-refl log.turns }, each_itself logs)

  all_zip_append : (ks ls ms ns : List (Log V)) → AllZip TellsTheSame ks ls → AllZip TellsTheSame ms ns
      → AllZip TellsTheSame (ks ++ ms) (ls ++ ns)
  all_zip_append [] [] ms ns h k = k
  all_zip_append [] (l ∷ ls) ms ns h k = absurd h
  all_zip_append (x ∷ ks) [] ms ns h k = absurd h
  all_zip_append (x ∷ ks) (l ∷ ls) ms ns h k = (h.0, all_zip_append ks ls ms ns h.1 k)

module _ {S V : Type 0} {values : Values V} (meaning : S → Meaning V) where
  -- an engine that stands for a state has run nothing since
  pub since_none : (e : EngineOf S V) (s : State values) → EngineStands meaning e s → HasRunSince meaning s [] [] e
  since_none e s stands = record {
    tell = tt;
    complete = λ frames. runs_are_complete frames s (is_sound meaning e s stands);
    stands = stands;
  }

  -- it ran no frames, and appended nothing
  pub frames_none : (e : EngineOf S V) (s : State values) (logs : List (Log V)) → EngineStands meaning e s
      → HasRunFrames meaning [] s logs logs e
  frames_none e s logs stands = record {
    appended = sym (append-nil logs);
    complete = runs_are_complete [] s (is_sound meaning e s stands);
    stands = stands;
  }

  -- logs that are exactly those of the run since a state stay so as frames are run
  pub exact_then : (old new : EngineOf S V) (s : State values) (before frames : List (Frame V)) (earlier after : List (Log V))
      → HasRunSince meaning s before earlier old → earlier ≡ (run before s).logs
      → ((u : State values) → EngineStands meaning old u → HasRunFrames meaning frames u earlier after new)
      → after ≡ (run (before ++ frames) s).logs
  exact_then old new s before frames earlier after far exact ran =
      let then = ran (run before s).state far.stands in
      rw (then.appended, run_append) (ap (λ logs. logs ++ (run frames (run before s).state).logs) exact)

  module _ (old new : EngineOf S V) where
    -- a call that ran or replayed frames: whatever the state before it, its logs tell the same as those of their run
    pub since_call : (gs : List (Frame V)) (logs after : List (Log V))
        → ((u : State values) → EngineStands meaning old u → (ls : List (Log V)) × (after ≡ logs ++ ls)
        × AllZip TellsTheSame ls (run gs u).logs × EngineStands meaning new (run gs u).state)
        → (s : State values) (frames : List (Frame V)) → HasRunSince meaning s frames logs old
        → HasRunSince meaning s (frames ++ gs) after new
    since_call gs logs after ran s frames far =
        let (ls, is, tell, stands) = ran (run frames s).state far.stands in
        record {
          tell = rw (run_append, is) (all_zip_append logs (run frames s).logs ls _ far.tell tell);
          complete = far.complete;
          stands = rw run_append stands;
        }

    -- frames, and one more
    pub frames_and_one : (s : State values) (frames : List (Frame V)) (f : Frame V) (before logs : List (Log V)) (log : Log V)
        → IsSoundState s → HasRunFrames meaning frames s before logs old
        → ((u : State values) → EngineStands meaning old u → HasRunFrame meaning f u log new)
        → HasRunFrames meaning (frames ++ f ∷ []) s before (logs ++ log ∷ []) new
    frames_and_one s frames f before logs log sound far ran =
        let one = ran (run frames s).state far.stands in
        record {
          appended = rw (run_append, far.appended, one.tells, append_assoc) refl;
          complete = runs_are_complete (frames ++ f ∷ []) s sound;
          stands = rw run_append one.stands;
        }
