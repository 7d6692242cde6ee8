use Rattle.std.proofs.Common.{◌≡◌, length}
use Rattle.msg_exec.specs.Prelude.{EachIs}
use Rattle.msg_frames.specs.Prelude.{IsNew}
use Rattle.frame_bench.proofs.boxes.run_boxes.OwnLists.{own-1}
use Rattle.frame_bench.proofs.boxes.run_boxes.Given as goal

abbrev pub invariant-loop-number : goal.invariant-loop-number
invariant-loop-number g l = record {
  next : length l.systems.items ≡ l.number;
  so_far : EachIs (λ i x. IsNew i ((own-1.entry x.vtable).1.meaning x.value)) l.systems.items;
}
