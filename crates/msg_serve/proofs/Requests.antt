-- Which requests change a state.
use Rattle.std.proofs.Common.{◌≡◌, List, [], ◌∷◌, refl}
use Rattle.msg_frames.specs.Prelude.{State, frame, run as run_of}
use Rattle.msg_serve.specs.Prelude.{Request, after_requests, frames_among}
use Rattle.msg_serve.specs.Requests.{readers, refused, run}
use Rattle.msg_world.specs.Prelude.{i64_values}

pub only_frames : (requests : List Request) (now : State i64_values)
    → after_requests requests now ≡ (run_of (frames_among requests) now).state
only_frames [] now = refl
only_frames (run f ∷ requests) now = only_frames requests (frame f now).state
only_frames (readers ∷ requests) now = only_frames requests now
only_frames (refused text ∷ requests) now = only_frames requests now
