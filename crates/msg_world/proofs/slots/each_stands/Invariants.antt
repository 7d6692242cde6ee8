use Rattle.std.proofs.Common.{ℕ, ◌<◌}
use Rattle.msg_buffer.specs.Prelude.{History}
use Rattle.msg_world.specs.{Prelude.Record, inner.Slots.BufferStands, inner.Slots.at}
use Rattle.msg_world.proofs.slots.each_stands.Given as goal

abbrev pub invariant-loop-slot : goal.invariant-loop-slot
invariant-loop-slot g l = (t : ℕ) → t < l.slot-index
    → (h : History (Record g.row.V.Denot)) × BufferStands (at l.types t) h
