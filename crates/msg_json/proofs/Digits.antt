-- Digits that are written from the end of a text.
use Rattle.std.proofs.Common.{◌≡◌, ◌<◌, ◌≤◌, ◌^◌, ℕ, length, ℤ, pos, negsuc, true, refl, arith, append_assoc, int_le, unsigned_abs}
use Rattle.std.specs.Fmt.{decimal, signed_decimal}
use Rattle.std.proofs.lemmas.{Fmt.length-decimal-le, Fmt.decimal_step_wide, Grind.common_steps}
use Rattle.itoa.proofs.Decimal.{length_wide, length_step_wide}

-- a value from 0 on has no sign
pub no_minus : (z : ℤ) → int_le (pos 0) z ≡ true → decimal (unsigned_abs z) ≡ signed_decimal z
no_minus (pos n) e = refl
no_minus (negsuc n) e = cc

-- a number below 10 ^ 19 has at most 19 digits
pub digits : (n : ℕ) → n < 10 ^ 19 → length (decimal n) ≤ 19
digits n lt = length-decimal-le 19 n (omega arith) lt (omega arith)

-- steps that the check takes by itself
pub ruleset wide_steps = (common_steps, append_assoc, length_wide, length_step_wide, decimal_step_wide)
