-- Which systems an engine of a scenario is made of.
use Rattle.std.specs.Prelude.{◌≡◌, ℕ, List, Some, slice_get, ℤ}
use Rattle.msg_system.specs.Prelude.{Meaning, new_system}
use Rattle.msg_reading.specs.declared.scenario.SystemSpec.{SystemSpec}

module _ {S : Type 0} (meaning : S → Meaning ℤ) where
  -- x is system i: it was given nothing yet, and writes as its number
  abbrev pub IsSystemAt : List SystemSpec → ℕ → S → Type 0
  IsSystemAt specs i x = (spec : SystemSpec) → slice_get specs i ≡ Some spec → meaning x
      ≡ new_system spec.program i
