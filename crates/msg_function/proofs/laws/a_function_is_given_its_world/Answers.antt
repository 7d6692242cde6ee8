use Rattle.msg_function.proofs.GivenWorld.{is_given}
use Rattle.msg_function.proofs.laws.a_function_is_given_its_world.Goals as goal

pub returns : goal.returns
returns g c = record { law = is_given }
