use Rattle.std.proofs.Common.{◌≡◌, ℕ, IsTrue, None, false, vec_len, if◌then◌else◌}
use Rattle.msg_world.specs.{Prelude.has_bit, inner.Slots.at}
use Rattle.msg_world.proofs.moved.MovedParts.move_out.Given as goal

abbrev pub invariant-loop-rest : goal.invariant-loop-rest
invariant-loop-rest g l = record {
  mask : l.self-inside.mask ≡ l.mask;
  of_mask : (k : ℕ) → IsTrue (has_bit l.rest k) → IsTrue (has_bit l.mask k);
  moved_len : vec_len l.self-inside.slots ≡ vec_len l.initial.from;
  left_len : vec_len l.from ≡ vec_len l.initial.from;
  to_do : (k : ℕ) → IsTrue (has_bit l.rest k)
      → (at l.self-inside.slots.items k ≡ None) × (at l.from.items k ≡ at l.initial.from.items k);
  moved : (k : ℕ) → has_bit l.rest k ≡ false → at l.self-inside.slots.items k
      ≡ (if has_bit l.mask k then at l.initial.from.items k else None);
  left : (k : ℕ) → has_bit l.rest k ≡ false → at l.from.items k
      ≡ (if has_bit l.mask k then None else at l.initial.from.items k);
}

abbrev pub decreases-loop-rest : goal.decreases-loop-rest
decreases-loop-rest g l = l.rest
