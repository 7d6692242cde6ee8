use Rattle.msg_function.proofs.Lists.{all_empty_in}
use Rattle.msg_function.proofs.outbox.Outbox.new.Goals as goal

pub returns : goal.returns
returns g c = record { nothing = all_empty_in (λ list. list.items) _ c.loop.invariant.empty }
