use Rattle.std.proofs.Common.{◌≡◌, ◌-◌, ◌<◌, ◌≤◌, ℕ, length, false, get_or, Some, vec_capacity, slice_get}
use mathlib.Core.Option.{some}
use lib.ListN.{get_elem?}
use Rattle.std.specs.{Slots.slots_items, Slots.slots_filled, Slots.slots_len, Slots.Ownership.Filled}
use Rattle.msg_board.specs.Prelude.{Done}
use Rattle.msg_board.proofs.slots.take_results.Given as goal

abbrev pub invariant-loop-i : goal.invariant-loop-i
invariant-loop-i g l = record {
  within : l.i ≤ slots_len l.fn.closed.slots;
  same_items : slots_items l.closed.slots ≡ slots_items l.fn.closed.slots;
  same_len : slots_len l.closed.slots ≡ slots_len l.fn.closed.slots;
  full : Filled (slots_filled l.closed.slots) l.i (slots_len l.closed.slots);
  taken : (k : ℕ) → k < l.i → get_or (slots_filled l.closed.slots) k false ≡ false;
  count : length l.results.items ≡ l.i;
  room : slots_len l.fn.closed.slots ≤ vec_capacity l.results;
  items : (k : ℕ) (d : _) → slice_get l.results.items k ≡ Some d
      → get_elem? (slots_items l.fn.closed.slots) k ≡ some (Done d);
}

abbrev pub decreases-loop-i : goal.decreases-loop-i
decreases-loop-i g l = slots_len l.closed.slots - l.i
