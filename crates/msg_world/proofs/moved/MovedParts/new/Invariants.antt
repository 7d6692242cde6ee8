use Rattle.std.proofs.Common.{◌≡◌, ◌≤◌, ℕ, None, vec_capacity, vec_len}
use Rattle.msg_world.specs.inner.Slots.{at}
use Rattle.msg_world.proofs.moved.MovedParts.new.Given as goal

abbrev pub invariant-loop-slot : goal.invariant-loop-slot
invariant-loop-slot g l = record {
  number : vec_len l.empty ≡ l._slot;
  room : l.slots ≤ vec_capacity l.empty;
  empty : (k : ℕ) → at l.empty.items k ≡ None;
}
