use Rattle.std.proofs.Common.{refl}
use Rattle.msg_engine_tests.proofs.boxes.writer.Goals as goal

pub returns : goal.returns
returns g c = record { new = rw c.new.ensures.new (record { writer = refl; places = λ t. refl }) }
