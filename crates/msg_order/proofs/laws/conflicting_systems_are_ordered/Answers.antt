use Rattle.msg_order.proofs.SettledOrders.{conflicts_ordered}
use Rattle.msg_order.proofs.laws.conflicting_systems_are_ordered.Goals as goal

pub returns : goal.returns
returns c = record { law = conflicts_ordered }
