use Rattle.std.proofs.Common.{◌++◌, All, List, take}
use Rattle.msg_exec.specs.Prelude.{EngineStands, HasRunFrames, HasRunSince, IsEngine, PostsFit}
use Rattle.msg_frames.specs.Prelude.{State}
use Rattle.msg_frames.specs.declared.frame.Frame.{Frame}
use Rattle.tower.proofs.go_on.Given as goal

-- the frames so far go on with the run before
abbrev pub invariant-loop-frame : goal.invariant-loop-frame
invariant-loop-frame g l = record {
  engine : IsEngine g.V.Value.values g.S.SystemOf.meaning l.engine;
  fit : All (PostsFit l.engine) l.frames;
  ran : (s : State g.V.Value.values) → EngineStands g.S.SystemOf.meaning l.initial.engine s
      → HasRunFrames g.S.SystemOf.meaning (take l.frame-index l.frames) s l.initial.logs.items l.logs.items l.engine;
  since : (s : State g.V.Value.values) (before : List (Frame g.row.V.Denot))
      → HasRunSince g.S.SystemOf.meaning s before l.initial.logs.items l.initial.engine
      → HasRunSince g.S.SystemOf.meaning s (before ++ take l.frame-index l.frames) l.logs.items l.engine;
}
