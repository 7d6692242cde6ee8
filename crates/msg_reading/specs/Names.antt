-- Names of types, resources and systems.
use Rattle.std.specs.Prelude.{ℕ, ◌&&◌, ◌||◌, ◌==◌, not, nat_le, Bool, length, codes}
use Rattle.std.specs.{Char.is_ascii_digit, Char.is_ascii_lowercase, List.list_all, Str.bytes_eq}
use Rattle.msg_json.specs.Prelude.{Text}
use Rattle.msg_reading.specs.declared.limits.TheConstants.{MAX_NAME}

-- `a` to `z`, `0` to `9`, or `_`
abbrev pub is_name_character : ℕ → Bool
is_name_character c = is_ascii_lowercase c || is_ascii_digit c || c == 95

-- 1 to `MAX_NAME` such characters, and not the host's name
abbrev pub is_name : Text → Bool
is_name t =
    nat_le 1 (length t) && nat_le (length t) MAX_NAME && list_all is_name_character t
    && not (bytes_eq t (codes "host"))
