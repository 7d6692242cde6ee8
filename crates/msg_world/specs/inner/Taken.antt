-- What was moved out, as slots. No public contract cites these.
use Rattle.std.specs.Prelude.{List, None, Option, Some, replicate, ℕ}
use Rattle.std.specs.declared.boxed.Box.{Box}
use Rattle.msg_world.specs.{declared.taken.MovedOut.MovedOut, inner.Moved.AreEmptyOf}

-- the slots of one kind of part; all are empty if nothing was moved out
abbrev pub slots_of : {V A X : Type 0} → (MovedOut V → List (Option X)) → ℕ → Option (Box (MovedOut V) A)
    → List (Option X)
slots_of slots n None = replicate n None
slots_of slots n (Some b) = slots b.value

-- what serves the next loan of a world of so many types and resources: nothing is in it
pub record IsSpare {V : Type 0} (type_slots resource_slots : ℕ) (moved : MovedOut V) : Type 0 where
  pub types : AreEmptyOf type_slots moved.types
  pub resources : AreEmptyOf resource_slots moved.resources
