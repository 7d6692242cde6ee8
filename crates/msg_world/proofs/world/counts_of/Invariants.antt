use Rattle.std.proofs.Common.{◌≡◌, ℕ, ◌<◌, length, Some, IsSome, slice_get}
use Rattle.msg_buffer.specs.Prelude.{History, count}
use Rattle.msg_world.specs.{Prelude.Record, inner.Slots.BufferStands, inner.Slots.at}
use Rattle.msg_world.proofs.world.counts_of.Given as goal

abbrev pub invariant-loop-slot : goal.invariant-loop-slot
invariant-loop-slot g l = record {
  types : length l.counts ≡ l.slot-index;
  counts : (t : ℕ) → t < l.slot-index → IsSome (at l.types.items t) → (h : History (Record g.row.V.Denot)) → BufferStands (at l.types.items t) h
      → slice_get l.counts t ≡ Some (count h);
}
