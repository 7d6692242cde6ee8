use Rattle.std.proofs.Common.{arith}
use Rattle.msg_buffer.proofs.Standing.{stands_for_some}
use Rattle.msg_buffer.proofs.messages.Messages.stands_for_some.Goals as goal

pub returns : goal.returns
returns g c =
    let i = c.self.invariant in let is = c.self.view_is in record {
      history = λ m. stands_for_some m c.args.self.now (grind (arith, is, i)) (grind (arith, is, i)) (grind (arith, is, i));
    }
