use Rattle.std.proofs.Common.{ap, refl}
use Rattle.msg_engine_tests.proofs.boxes.Listener.new.Goals as goal

pub returns : goal.returns
returns c = record { new = record { writer = refl; places = λ t. ap (λ f. f t) c.new.ensures.zero } }
