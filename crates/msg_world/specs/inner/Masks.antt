-- What the private functions on masks say. No public contract cites these.
use Rattle.std.specs.Prelude.{ℕ, ◌<◌, ◌&&◌, ◌||◌, ◌⊎◌, IsTrue}
use Rattle.msg_world.specs.Access.{has_bit}

-- a bit is set in both masks
abbrev pub ShareBit : ℕ → ℕ → Type 0
ShareBit a b = (k : ℕ) × IsTrue (has_bit a k && has_bit b k)

-- of two pairs of masks, read and written, one writes a bit that the other has
abbrev pub Collide : ℕ → ℕ → ℕ → ℕ → Type 0
Collide read write other_read other_write = (k : ℕ)
    × (IsTrue (has_bit write k && (has_bit other_read k || has_bit other_write k))
    ⊎ IsTrue (has_bit other_write k && (has_bit read k || has_bit write k)))

-- each bit of the mask is below n
abbrev pub IsBelow : ℕ → ℕ → Type 0
IsBelow mask n = (k : ℕ) → IsTrue (has_bit mask k) → k < n
