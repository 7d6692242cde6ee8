-- What a system, a type or a resource is called.
use Rattle.std.specs.Borrow.{Bor}
use Rattle.std.specs.Prelude.{List, None, Some, slice_get, ℕ, ◌≡◌}
use Rattle.msg_names.specs.declared.names.Name.{Name}
use Rattle.msg_names.specs.declared.names.Name.TheVariants.{Given, Numbered}

-- It is called by its name, if it has one, and else by its kind and its number.
abbrev pub IsNamed : List ℕ → List (Bor (List ℕ)) → ℕ → Name → Type 0
IsNamed kind names number (Given name) = slice_get names number ≡ Some name
IsNamed kind names number (Numbered k n) =
    (slice_get names number ≡ None) × (k.now ≡ kind) × (n ≡ number)
