use Rattle.std.proofs.Common.{arith}
use Rattle.msg_buffer.proofs.Standing.{stands_cleared}
use Rattle.msg_buffer.proofs.messages.Messages.clear.Goals as goal

pub returns : goal.returns
returns g c = record {
  meaning = λ h s. stands_cleared c.args.self.now _ h
      (grind (arith, c.self.view_is, c.self.invariant.halves_meet, c.self.invariant.ends_at_count)) s;
}
