use Rattle.std.proofs.Common.{◌≡◌, ℕ, ◌<◌, ◌≤◌, is_some}
use Rattle.msg_buffer.specs.Prelude.{History, update}
use Rattle.msg_world.specs.{Prelude.Record, inner.Slots.BufferStands, inner.Slots.at}
use Rattle.msg_world.proofs.world.update_each.Given as goal

abbrev pub invariant-loop-slot : goal.invariant-loop-slot
invariant-loop-slot g l = record {
  there : (t : ℕ) → is_some (at l.slot-items t) ≡ is_some (at l.initial.slot-items t);
  updated : (t : ℕ) → t < l.slot-index → (h : History (Record g.row.V.Denot)) → BufferStands (at l.initial.slot-items t) h
      → BufferStands (at l.slot-items t) (update h);
  rest : (t : ℕ) → l.slot-index ≤ t → at l.slot-items t ≡ at l.initial.slot-items t;
}
