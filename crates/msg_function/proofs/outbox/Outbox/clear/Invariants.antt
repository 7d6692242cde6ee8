use Rattle.std.proofs.Common.{◌≡◌, ◌<◌, ℕ, [], Global, Vec, get_or}
use Rattle.msg_function.proofs.outbox.Outbox.clear.Given as goal

abbrev pub invariant-loop-k : goal.invariant-loop-k
invariant-loop-k g l = (j : ℕ) (d : Vec g.row.V.Denot Global) → j < l.k → (get_or l.self.lists.items j d).items ≡ []
