-- Which kind of file a value is to be.
use Rattle.std.specs.Prelude.{ℕ, ◌&&◌, nat_le, nat_lt, Bool, List, filter, is_some, length}
use Rattle.serde_json.specs.{Data.Data, Find.get}
use Rattle.msg_json.specs.Faults.{key_text}
use Rattle.msg_json.specs.declared.location.Key.{Key}
use Rattle.msg_json.specs.declared.location.TheConstants.{CALLS_KEYS, SCENARIO_KEYS}

-- how many of these keys an object has; a value that is none has no keys
abbrev pub count_keys : List Key → Data → ℕ
count_keys keys d = length (filter (λ k. is_some (get (key_text k) d)) keys)

-- it has a key of calls files, and not more keys of scenario files
abbrev pub is_calls_file : Data → Bool
is_calls_file d =
    nat_lt 0 (count_keys CALLS_KEYS.now d)
    && nat_le (count_keys SCENARIO_KEYS.now d) (count_keys CALLS_KEYS.now d)
