-- How the references into parts that were moved out write back.
use Rattle.std.specs.{Borrow.LendsIf, Borrow.MutBor, Borrow.Fml, Borrow.RattleType, Prelude.ℕ, Prelude.Option, Prelude.Some, Prelude.List, Prelude.slice_set}
use Rattle.msg_world.specs.contracts.moved.MovedParts.{the_row}

module _ (T : RattleType) where
  -- the slots end with this part as it was left
  abbrev pub LendsPart : MutBor (List (Option T.Denot)) → ℕ → Option (MutBor T.Denot) → Fml
  LendsPart s slot given = LendsIf (the_row T) T s given (λ x. slice_set s.now slot (Some x)) s.now
