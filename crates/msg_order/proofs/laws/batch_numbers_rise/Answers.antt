use Rattle.msg_order.proofs.Chains.{number_once, number_rises}
use Rattle.msg_order.proofs.laws.batch_numbers_rise.Goals as goal

pub returns : goal.returns
returns c = record {
  law = λ g i j m n a b. (λ e. number_once g j m n (rw e at a) b, λ p. number_rises g i j m n p a b);
}
