use Rattle.std.proofs.Common.{◌≡◌, ◌≤◌, ◌+◌, ◌-◌, ◌^◌, length, drop, take, min, All}
use Rattle.msg_exec.specs.Prelude.{EngineStands, HasRunFrames, IsEngine, IsSpoiled, PostsFit, frame_number}
use Rattle.msg_workers.specs.Prelude.{EachPassedGate}
use Rattle.msg_frames.specs.Prelude.{State, turn_order_in}
use Rattle.msg_frames.specs.declared.frame.Frame.{Frame}
use Rattle.msg_exec.proofs.engine.EngineOf.run_frames.Given as goal

abbrev pub invariant-loop-frame : goal.invariant-loop-frame
invariant-loop-frame g l = record {
  so_far : (s : State g.V.Value.values) → EngineStands g.S.SystemOf.meaning l.initial.self s
      → HasRunFrames g.S.SystemOf.meaning (take l.frame-index l.frames) s l.initial.out.items l.out.items l.self;
  longer : length l.initial.out.items ≤ length l.out.items;
  gate_passed : All (λ log. EachPassedGate (g.G.Gate.passed l.gate) l.workers (turn_order_in log))
      (drop (length l.initial.out.items) l.out.items);
  engine : IsEngine g.V.Value.values g.S.SystemOf.meaning l.self;
  counted : frame_number l.self ≡ min (frame_number l.initial.self + l.frame-index) (2 ^ 32 - 1);
  alive : ¬ IsSpoiled l.self;
  fits : (f : Frame g.row.V.Denot) → PostsFit l.initial.self f → PostsFit l.self f;
}
