use Rattle.msg_frames.proofs.Functions.{order_is_settled}
use Rattle.msg_laws.proofs.OrderOfTurns.{are_ordered}
use Rattle.msg_laws.proofs.turn_laws.turns_are_in_settled_order.Goals as goal

pub returns : goal.returns
returns g c = record { turns = are_ordered; settled = order_is_settled }
