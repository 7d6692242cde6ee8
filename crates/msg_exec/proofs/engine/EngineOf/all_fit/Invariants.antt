use Rattle.std.proofs.Common.{ℕ, ◌<◌, get_or}
use Rattle.msg_frames.specs.declared.frame.Frame.{Frame}
use Rattle.msg_exec.specs.Prelude.{PostsFit}
use Rattle.msg_exec.proofs.engine.EngineOf.all_fit.Given as goal

abbrev pub invariant-loop-frame : goal.invariant-loop-frame
invariant-loop-frame g l = (k : ℕ) (d : Frame g.row.V.Denot) → k < l.frame-index → PostsFit l.self (get_or l.frames k d)
