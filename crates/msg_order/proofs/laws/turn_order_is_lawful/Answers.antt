use Rattle.msg_order.proofs.TurnOrders.{in_lawful_order}
use Rattle.msg_order.proofs.laws.turn_order_is_lawful.Goals as goal

pub returns : goal.returns
returns c = record { law = in_lawful_order }
