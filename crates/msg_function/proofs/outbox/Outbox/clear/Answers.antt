use Rattle.std.proofs.Common.{arith}
use Rattle.msg_function.proofs.Lists.{all_empty_in}
use Rattle.msg_function.proofs.outbox.Outbox.clear.Goals as goal

pub returns : goal.returns
returns g c = record {
  nothing = all_empty_in (λ list. list.items) c.loop-k.self.lists.items (λ j d lt. c.loop-k.invariant j d (omega (arith, lt)));
}
