use Rattle.std.proofs.Common.{◌≡◌, ℕ, IsSome, IsTrue, false, ◌||◌}
use Rattle.msg_world.specs.{Prelude.has_bit, inner.Slots.at}
use Rattle.msg_world.proofs.slots.have_each.Given as goal

abbrev pub invariant-loop-rest : goal.invariant-loop-rest
invariant-loop-rest g l = record {
  of_masks : (k : ℕ) → IsTrue (has_bit l.rest k) → IsTrue (has_bit l.read k || has_bit l.write k);
  seen : (k : ℕ) → IsTrue (has_bit l.read k || has_bit l.write k) → has_bit l.rest k ≡ false
      → IsSome (at l.slots.items k);
}

abbrev pub decreases-loop-rest : goal.decreases-loop-rest
decreases-loop-rest g l = l.rest
