-- What the functions that read a list's elements promise.
use Rattle.std.specs.Prelude.{◌≡◌, ◌⊎◌, Ok, Err}
use Rattle.msg_json.specs.Prelude.{Reading}
use Rattle.msg_json.specs.declared.reason.Reason.TheVariants.{NoMemory}
use Rattle.msg_reading.specs.Declarations.{Declared}

-- the answer of what declares names and may want memory, and the names after it
abbrev pub ReadsWith : {A : Type 0} → Reading (A × Declared) → Declared → Reading A → Type 0
ReadsWith reading names (Ok a) = reading ≡ Ok (a, names)
ReadsWith reading names (Err e) = (e.reason ≡ NoMemory) ⊎ (reading ≡ Err e)
