use Rattle.std.proofs.Common.{arith}
use Rattle.std.proofs.lemmas.List.{nil_from_length}
use Rattle.msg_buffer.proofs.Standing.{stands_updated}
use Rattle.msg_buffer.proofs.messages.Messages.update.Goals as goal

pub returns-then-self : goal.returns-then-self
returns-then-self g c = record {
  meaning = λ h s. stands_updated c.args.self.now _ h
      (grind (arith, nil_from_length, c.self.view_is, c.self.invariant.halves_meet, c.self.invariant.ends_at_count, c.if-self.true)) s;
}

pub returns : goal.returns
returns g c = record {
  meaning = λ h s. stands_updated c.args.self.now _ h (grind (arith, c.self.view_is, c.self.invariant.halves_meet)) s;
}
