use Rattle.msg_order.proofs.SettledOrders.{settled_among, settled_no_cycle}
use Rattle.msg_order.proofs.laws.settling_makes_no_cycle.Goals as goal

pub returns : goal.returns
returns c = record {
  law = λ conflict rules joined. (settled_among rules joined conflict, settled_no_cycle rules joined conflict);
}
