use Rattle.msg_system.proofs.WholeTurns.{are_whole, within_bounds}
use Rattle.msg_system.proofs.laws.turns_within_bounds_are_whole.Goals as goal

pub returns : goal.returns
returns g c = record { law = within_bounds; always = are_whole }
