use Rattle.std.proofs.Common.{◌≡◌, ◌<◌, ℕ, [], Global, Vec, get_or, length}
use Rattle.msg_function.proofs.outbox.Outbox.new.Given as goal

abbrev pub invariant-loop : goal.invariant-loop
invariant-loop g l = record {
  long : length l.lists.items ≡ l.counter;
  empty : (k : ℕ) (d : Vec g.row.V.Denot Global) → k < length l.lists.items → (get_or l.lists.items k d).items ≡ [];
}
