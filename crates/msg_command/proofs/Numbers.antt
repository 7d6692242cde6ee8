-- Which texts are numbers up to a limit.
use Rattle.std.proofs.Common.{◌≡◌, ℕ, ◌<◌, ◌≤◌, [], ◌∷◌, Some, None, true, refl, arith, ◌^◌, nat_lt}
use Rattle.std.specs.{Char.digit_value, List.list_all, Str.Parse.AllDigits, Str.Parse.IsNumeral, Str.Parse.digits_value, Str.Parse.without_leading_plus}
use Rattle.std.proofs.lemmas.Bool.Decides.{nat_tests}
use Rattle.clap.specs.Words.{Text}
use Rattle.msg_command.specs.Prelude.{number_in}

-- each digit passes the test
digits_pass : (ds : Text) → AllDigits 10 ds → list_all (λ c. nat_lt (digit_value c) 10) ds ≡ true
digits_pass [] all = refl
digits_pass (c ∷ cs) all = grind (arith, nat_tests, digits_pass cs)

-- and what passes is a digit
passing_digits : (ds : Text) → list_all (λ c. nat_lt (digit_value c) 10) ds ≡ true → AllDigits 10 ds
passing_digits [] h = tt
passing_digits (c ∷ cs) h = grind (arith, nat_tests, passing_digits cs)

-- a numeral from 1 on is a number up to one that it doesn't pass
pub is_named : (text : Text) (most n : ℕ) → IsNumeral 10 (without_leading_plus text)
    → n ≡ digits_value 10 (without_leading_plus text) → 1 ≤ n → n ≤ most → Some n ≡ number_in most text
is_named text most n numeral is low high = grind (arith, nat_tests, digits_pass (without_leading_plus text))

-- what isn't a numeral of a number below 2 ^ 32 is none
pub is_no_number : (text : Text) (most : ℕ) → most < 2 ^ 32 → (IsNumeral 10 (without_leading_plus text)
    × (digits_value 10 (without_leading_plus text) < 2 ^ 32) → ⊥)
    → None ≡ number_in most text
is_no_number text most small none = grind (arith, nat_tests, none, passing_digits (without_leading_plus text))
