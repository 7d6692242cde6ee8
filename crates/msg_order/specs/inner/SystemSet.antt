-- Sets of systems, as the private functions' contracts see them. No public contract cites these.
use Rattle.std.specs.Prelude.{Bool, [], slice_index, ℕ, ◌%◌, ◌&&◌, ◌/◌}
use Rattle.std.specs.List.{list_any, range_with_len}
use Rattle.msg_world.specs.{Prelude.has_bit, declared.limits.TheConstants.MAX_SYSTEMS}
use Rattle.msg_order.specs.declared.system_set.SystemSet.{SystemSet}

-- system k is in the set
unfoldable pub has : SystemSet → ℕ → Bool
has s k = has_bit (slice_index s.words (k / 64)) (k % 64)

-- a system is in both sets
unfoldable pub meets : SystemSet → SystemSet → Bool
meets s t = list_any (λ k. has s k && has t k) (range_with_len 0 MAX_SYSTEMS)

-- the set that is read if a list has none there: it has no words
abbrev pub no_set : SystemSet
no_set = record { words = [] }
