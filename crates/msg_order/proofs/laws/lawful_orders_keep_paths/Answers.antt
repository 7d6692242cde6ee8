use Rattle.msg_order.proofs.TurnOrders.{kept_along}
use Rattle.msg_order.proofs.laws.lawful_orders_keep_paths.Goals as goal

pub returns : goal.returns
returns c = record { law = kept_along }
