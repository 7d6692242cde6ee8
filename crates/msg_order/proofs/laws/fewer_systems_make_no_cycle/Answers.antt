use Rattle.msg_order.proofs.SettledOrders.{fewer_make_none}
use Rattle.msg_order.proofs.laws.fewer_systems_make_no_cycle.Goals as goal

pub returns : goal.returns
returns c = record { law = fewer_make_none }
