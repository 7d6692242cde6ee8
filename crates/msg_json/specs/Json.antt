-- Words on JSON values.
use Rattle.std.specs.Prelude.{◌≡◌, IsUtf8, ℕ, ℤ, pos, negsuc, ◌&&◌, nat_lt, Bool, List, [], ◌∷◌, Option, Some, None, is_some, option_map, unwrap_or, if◌then◌else◌}
use Rattle.std.specs.List.{list_all}
use Rattle.serde_json.specs.{Data.Data, Data.Items, Data.no_items, Data.item, Data.Members, Data.no_members, Data.member, Read.read, Find.as_number, Find.as_array, Find.as_object}
use Rattle.msg_json.specs.Text.{Text}

-- the same elements as a list
abbrev pub list_of : Items → List Data
list_of no_items = []
list_of (item d ds) = d ∷ list_of ds

-- the elements of a list; a value that is no list has none
abbrev pub elements : Data → List Data
elements d = unwrap_or (option_map list_of (as_array d)) []

-- the keys in order
abbrev pub keys_of : Members → List Text
keys_of no_members = []
keys_of (member key d ms) = key ∷ keys_of ms

-- the keys of an object; a value that is no object has none
abbrev pub keys : Data → List Text
keys d = unwrap_or (option_map keys_of (as_object d)) []

-- the value is an object
abbrev pub is_object : Data → Bool
is_object d = is_some (as_object d)

-- the value is a list
abbrev pub is_list : Data → Bool
is_list d = is_some (as_array d)

-- the value is a number
abbrev pub is_number : Data → Bool
is_number d = is_some (as_number d)

-- the value is a list whose elements all are numbers
abbrev pub is_list_of_numbers : Data → Bool
is_list_of_numbers d = is_list d && list_all is_number (elements d)

-- a whole number that isn't negative
abbrev pub not_negative : ℤ → Option ℕ
not_negative (pos n) = Some n
not_negative (negsuc n) = None

-- a number, if it is below an end
abbrev pub only_below : ℕ → ℕ → Option ℕ
only_below end n = if nat_lt n end then Some n else None

-- the bytes aren't UTF-8, or serde_json reads no value in them
abbrev pub IsNotJson : List ℕ → Type 0
IsNotJson bytes = IsUtf8 bytes → read bytes ≡ None

-- the bytes are UTF-8, and serde_json reads this value in them
pub record IsJsonOf (bytes : List ℕ) (d : Data) : Type 0 where
  pub utf8 : IsUtf8 bytes
  pub reads : read bytes ≡ Some d
