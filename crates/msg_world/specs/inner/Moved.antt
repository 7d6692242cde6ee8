-- Parts that were moved out of slots, as the slots that they left. No public contract cites these.
use Rattle.std.specs.Prelude.{◌≡◌, ℕ, List, IsSome, None, Option, false, if◌then◌else◌, length}
use Rattle.std.specs.Option.{option_or}
use Rattle.msg_world.specs.{Access.has_bit, inner.Slots.at}

module _ {T : Type 0} where
  -- no slot holds anything but those of a mask
  abbrev pub HoldNoneBut : ℕ → List (Option T) → Type 0
  HoldNoneBut mask xs = (k : ℕ) → has_bit mask k ≡ false → at xs k ≡ None

  -- they are n slots, and all are empty
  pub record AreEmptyOf (n : ℕ) (xs : List (Option T)) : Type 0 where
    pub number : length xs ≡ n
    pub empty : (k : ℕ) → at xs k ≡ None

  -- what the slots of a mask held was moved out of them
  pub record MovesOut (mask : ℕ) (old rest out : List (Option T)) : Type 0 where
    pub moved : (k : ℕ) → at out k ≡ (if has_bit mask k then at old k else None)
    pub left : (k : ℕ) → at rest k ≡ (if has_bit mask k then None else at old k)
    pub moved_len : length out ≡ length old
    pub left_len : length rest ≡ length old

  -- what was moved out has an empty slot at home
  pub record GoesHome (out home : List (Option T)) : Type 0 where
    pub number : length out ≡ length home
    pub free : (k : ℕ) → IsSome (at out k) → at home k ≡ None

  -- what was moved out is in the slots again, and all else as it was
  pub record MovesHome (out old new : List (Option T)) : Type 0 where
    pub joined : (k : ℕ) → at new k ≡ option_or (at out k) (at old k)
    pub len : length new ≡ length old
