use Rattle.std.proofs.Common.{◌≡◌, ℕ, IsSome, None, vec_len}
use Rattle.std.specs.Option.{option_or}
use Rattle.msg_world.specs.{inner.Moved.HoldNoneBut, inner.Slots.at}
use Rattle.msg_world.proofs.moved.MovedParts.move_home.Given as goal

abbrev pub invariant-loop-rest : goal.invariant-loop-rest
invariant-loop-rest g l = record {
  slots_len : vec_len l.self-inside.slots ≡ vec_len l.initial.home;
  home_len : vec_len l.home ≡ vec_len l.initial.home;
  others : HoldNoneBut l.rest l.self-inside.slots.items;
  free : (k : ℕ) → IsSome (at l.self-inside.slots.items k) → at l.home.items k ≡ None;
  joined : (k : ℕ) → option_or (at l.self-inside.slots.items k) (at l.home.items k)
      ≡ option_or (at l.initial.self-inside.slots.items k) (at l.initial.home.items k);
}

abbrev pub decreases-loop-rest : goal.decreases-loop-rest
decreases-loop-rest g l = l.rest
