use Rattle.std.proofs.Common.{arith}
use Rattle.msg_buffer.proofs.Presence.{get_stands}
use Rattle.msg_buffer.proofs.messages.Messages.get.Goals as goal

pub returns-in_err-instance : goal.returns-in_err-instance
returns-in_err-instance g c = record {
  meaning = λ h s.
      grind (arith, c.from_residual.ensures, c.in_err-instance.ensures, get_stands c.args.self.now h c.args.id.0 s);
}

pub returns : goal.returns
returns g c = record {
  meaning = λ h s. grind (arith, c.in_ok-instance.ensures, get_stands c.args.self.now h c.args.id.0 s);
}
