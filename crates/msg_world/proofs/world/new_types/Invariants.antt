use Rattle.std.proofs.Common.{◌≡◌, ℕ, ◌<◌, length, IsSomeAnd, slice_index}
use Rattle.msg_buffer.specs.Prelude.{StandsFor, empty}
use Rattle.msg_world.specs.inner.Slots.{at}
use Rattle.msg_world.proofs.world.new_types.Given as goal

abbrev pub invariant-loop-limit : goal.invariant-loop-limit
invariant-loop-limit g l = record {
  as_many : length l.types.items ≡ l.limit-index;
  empty : (t : ℕ) → t < l.limit-index
      → IsSomeAnd (at l.types.items t) (λ k. StandsFor k (empty (slice_index l.limits t)));
}
