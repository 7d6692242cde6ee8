use Rattle.std.proofs.Common.{refl}
use Rattle.frame_bench.proofs.script.Goals as goal

pub returns : goal.returns
returns c = record { new = rw c.new.ensures.new (record { writer = refl; places = λ t. refl }) }
