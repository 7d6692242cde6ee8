-- The parts of files: objects, lists, texts and numbers, read from JSON values.
use Rattle.std.specs.Prelude.{ℕ, ◌+◌, ℤ, ⊤, nat_le, not, Bool, List, [], ◌∷◌, length, position, Some, None, Ok, Err, option_and_then}
use Rattle.std.specs.{List.list_any, Str.bytes_eq}
use Rattle.serde_json.specs.{Data.Data, Find.get, Find.as_i64, Find.as_number, Find.as_str, Data.Num}
use Rattle.msg_json.specs.Text.{Text}
use Rattle.msg_json.specs.Json.{elements, is_list, is_list_of_numbers, is_object, keys, not_negative, only_below}
use Rattle.msg_json.specs.Faults.{Reading, fails, found, here, in_value, key_text, wanted, ◌>>=◌}
use Rattle.msg_json.specs.declared.limits.TheConstants.{MAX_VALUES}
use Rattle.msg_json.specs.declared.location.Key.{Key}
use Rattle.msg_json.specs.declared.reason.Reason.TheVariants as reason

-- ---- objects, lists and texts

-- every key is known; else the first that isn't is told
abbrev pub known_among : (Text → Bool) → List Text → Reading ⊤
known_among known names = elim (position (λ name. not (known name)) names) [
  | None ↦ Ok tt
  | Some n ↦ Err (record { reason = reason.UnknownKey; location = record here { member = Some n } })
]

-- a text is one of these keys
abbrev pub is_among : List Key → Text → Bool
is_among known text = list_any (λ key. bytes_eq text (key_text key)) known

-- an object that has none but these keys
abbrev pub known_keys : List Key → Data → Reading ⊤
known_keys known d =
    wanted (is_object d) reason.Object >>= λ _. known_among (is_among known) (keys d)

-- what an object has at a key
abbrev pub at_key : Key → Data → Reading Data
at_key key d = found (get (key_text key) d) (reason.Missing key)

-- the elements of a list of at most so many
abbrev pub list_up_to : ℕ → Data → Reading (List Data)
list_up_to most d =
    wanted (is_list d) reason.List >>= λ _.
    wanted (nat_le (length (elements d)) most) (reason.AtMost most) >>= λ _.
    Ok (elements d)

-- a text
abbrev pub text_of : Data → Reading Text
text_of d = found (as_str d) reason.Text

-- the text that a list begins with, its head, and what follows it
abbrev pub head_of : List Data → Reading (Text × List Data)
head_of [] = fails reason.Parts
head_of (head ∷ parts) = found (as_str head) reason.Parts >>= λ name. Ok (name, parts)

-- a list that begins with a text
abbrev pub headed : Data → Reading (Text × List Data)
headed d = head_of (elements d)

-- ---- numbers

-- a JSON number
abbrev pub number_of : Data → Reading Num
number_of d = found (as_number d) reason.Number

-- the elements of a list of numbers
abbrev pub numbers_of : Data → Reading (List Data)
numbers_of d = wanted (is_list_of_numbers d) reason.Numbers >>= λ _. Ok (elements d)

-- a whole number of an i64
abbrev pub whole : Num → Reading ℤ
whole n = found (as_i64 n) reason.Whole

-- a whole number from 0
abbrev pub natural : Num → Reading ℕ
natural n = found (option_and_then not_negative (as_i64 n)) reason.Natural

-- a whole number from 0 to below an end
abbrev pub below : ℕ → Num → Reading ℕ
below end n = found (option_and_then (only_below end)
    (option_and_then not_negative (as_i64 n))) (reason.Below end)

-- a value of a message or of a resource
abbrev pub value_of : Data → Reading ℤ
value_of d = number_of d >>= whole

-- a limit of a buffer, of a type or of a read: a whole number from 0 to 1,000,000
abbrev pub limit : Num → Reading ℕ
limit n = below 1000001 n

-- a limit
abbrev pub limit_of : Data → Reading ℕ
limit_of d = number_of d >>= limit

-- the values in order, the first of which is number n of its batch
abbrev pub values_from : ℕ → List Data → Reading (List ℤ)
values_from n [] = Ok []
values_from n (d ∷ ds) =
    in_value n (value_of d) >>= λ value.
    values_from (n + 1) ds >>= λ values.
    Ok (value ∷ values)

-- the values of a batch: at most `MAX_VALUES`
abbrev pub batch_of : List Data → Reading (List ℤ)
batch_of ds =
    wanted (nat_le (length ds) MAX_VALUES) (reason.AtMost MAX_VALUES) >>= λ _.
    values_from 0 ds

-- a list of numbers that are the values of a batch
abbrev pub values_of : Data → Reading (List ℤ)
values_of d = numbers_of d >>= batch_of
