use Rattle.std.proofs.Common.{◌≡◌, All, length}
use Rattle.msg_frames.specs.Prelude.{default_place}
use Rattle.frame_bench.proofs.boxes.places.Given as goal

abbrev pub invariant-loop-place : goal.invariant-loop-place
invariant-loop-place l = record {
  as_many : length l.places.items ≡ l._place;
  each : All (λ place. place ≡ default_place) l.places.items;
}
