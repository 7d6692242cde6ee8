-- Slots that are all empty.
use Rattle.std.proofs.Common.{◌≡◌, ℕ, arith, get_or, replicate}
use Rattle.std.proofs.lemmas.Bool.{cases_lt}
use Rattle.std.proofs.lemmas.List.{get_or-replicate, get_or_past, length-replicate}

-- a list of equal items, also past its end
pub equal_items : {X : Type 0} (n : ℕ) (x : X) (k : ℕ) → get_or (replicate n x) k x ≡ x
equal_items n x k = grind (arith, cases_lt, get_or-replicate, get_or_past, length-replicate)
