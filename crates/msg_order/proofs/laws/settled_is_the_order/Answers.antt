use Rattle.msg_order.proofs.SettledOrders.{settled_only, some_test}
use Rattle.msg_order.proofs.laws.settled_is_the_order.Goals as goal

pub returns : goal.returns
returns c = record { law = λ accesses rules joined. (some_test accesses joined, settled_only accesses rules joined) }
