use Rattle.msg_order.proofs.Functions.{batches_are, turns_are}
use Rattle.msg_order.proofs.laws.batches_are_by_number.Goals as goal

pub returns : goal.returns
returns c = record {
  law = λ g joined among free. (batches_are g joined among free, turns_are g joined among free);
}
