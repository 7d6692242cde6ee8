-- What the reading of a whole input says of the reader.
use Rattle.std.specs.Prelude.{◌≡◌, ℕ, ◌<◌, ◌≤◌, List, length, Option, IfSome}
use Rattle.std.specs.Io.KnownBytes.{Consumes}

-- if the reader tells the bytes that it has left, these are all of them
abbrev pub IsAllOf : Option (List ℕ) → List ℕ → Type 0
IsAllOf left bytes = IfSome left (λ known. bytes ≡ known)

-- from the bytes left before to those left after, the reader gave more than n
abbrev pub GaveMoreThan : Option (List ℕ) → Option (List ℕ) → ℕ → Type 0
GaveMoreThan before after n = (given : List ℕ) × Consumes before after given × (n < length given)

-- from the bytes left before to those left after, the reader gave no more than n
abbrev pub GaveAtMost : Option (List ℕ) → Option (List ℕ) → ℕ → Type 0
GaveAtMost before after n = (given : List ℕ) × Consumes before after given × (length given ≤ n)
