-- A writer and a reader of one type, which no call has run yet.
use Rattle.std.specs.Prelude.{pos, List, [], ◌∷◌, None, ℤ}
use Rattle.msg_world.specs.Prelude.{new_world, i64_values}
use Rattle.msg_system.specs.{Prelude.Meaning, Prelude.new_system, declared.condition.Condition.Condition, declared.condition.Probe.TheVariants.OnMessage, declared.op.Op.Op, declared.op.Op.TheVariants.Read, declared.op.Op.TheVariants.Write, declared.start.Start.TheVariants.Zero}
use Rattle.msg_exec.specs.Prelude.{numbered_from}
use Rattle.msg_frames.specs.{Prelude.State, Prelude.first_state, declared.place.Place.Place}

-- a system that does one op a turn
abbrev pub one_op : Op ℤ → Meaning ℤ
one_op op = new_system (record { ops = op ∷ []; start = Zero }) 0

-- what the two are
abbrev pub pair_systems : List (Meaning ℤ)
pair_systems = one_op (Write 0 (pos 7)) ∷ one_op (Read 0 None) ∷ []

-- each joins before the first frame, the reader under these conditions
abbrev pub pair_places : List (Condition ℤ) → List (Place ℤ)
pair_places conditions =
    record { conditions = []; join = 1 } ∷ record { conditions = conditions; join = 1 } ∷ []

-- the state of an engine of the two that was just made
abbrev pub pair_state : List (Condition ℤ) → State i64_values
pair_state conditions = first_state (numbered_from 0 pair_systems) (pair_places conditions) [] 1 0
    (new_world i64_values (100 ∷ []) [])

-- the one in which the reader waits for a message
abbrev pub waking_state : State i64_values
waking_state = pair_state (record { nots = 0; probe = OnMessage 0 } ∷ [])
