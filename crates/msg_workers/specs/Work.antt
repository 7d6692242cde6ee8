-- Which jobs may be run, what holds of those drawn, and that the gate was passed for them.
use Rattle.std.specs.Prelude.{◌≡◌, ◌<◌, ℕ, All, List, Contains, Some, length, min, slice_get, ◌⊎◌}

module _ {J : Type 0} where
  -- each of these jobs may be run
  abbrev pub EachMay : (J → Type 0) → List J → Type 0
  EachMay may jobs = (k : ℕ) (job : J) → slice_get jobs k ≡ Some job → may job

  -- of the job of each number that was drawn after `old`, `Such` holds
  abbrev pub EachNewIs : (J → Type 0) → List J → List ℕ → List ℕ → Type 0
  EachNewIs Such jobs old new = (k : ℕ) → Contains new k
      → Contains old k ⊎ ((job : J) → slice_get jobs k ≡ Some job → Such job)

-- one of n workers passed the gate for the system
abbrev pub PassedGate : (ℕ → ℕ → Type 0) → ℕ → ℕ → Type 0
PassedGate passed n system = (worker : ℕ) × (worker < n) × passed worker system

-- For each of these systems one of the workers passed the gate: they are at most n, and at most as
-- many as the systems.
abbrev pub EachPassedGate : (ℕ → ℕ → Type 0) → ℕ → List ℕ → Type 0
EachPassedGate passed n systems = All (PassedGate passed (min n (length systems))) systems
