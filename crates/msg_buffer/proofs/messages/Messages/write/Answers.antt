use Rattle.std.proofs.Common.{[], ◌∷◌, arith}
use Rattle.msg_buffer.proofs.Standing.{written}
use Rattle.msg_buffer.proofs.messages.Messages.write.Goals as goal

pub invariant_of-self : goal.invariant_of-self
invariant_of-self g c =
    rw c.in-Ok.ensures.items (written _ _ _ _ _ _ (c.args.message ∷ []) c.self.invariant (omega arith)).0

pub returns-in-Ok-clause-meaning : goal.returns-in-Ok-clause-meaning
returns-in-Ok-clause-meaning g c h s =
    rw c.in-Ok.ensures.items ((written _ _ _ _ _ _ (c.args.message ∷ []) c.self.invariant (omega arith)).1 h
    (rw (← c.self.view_is) at s))
