-- A state before any frame.
use Rattle.std.specs.Prelude.{List, [], length, map, slice_index_or, ℕ, ◌≡◌}
use Rattle.msg_world.specs.Prelude.{Values, WorldState}
use Rattle.msg_order.specs.declared.rule.Rule.{Rule}
use Rattle.msg_system.specs.{Prelude.Job, Prelude.Meaning, Prelude.new_asked, Prelude.new_system, declared.start.Start.TheVariants.Zero}
use Rattle.msg_frames.specs.{Entries.no_totals, Frames.Member, Frames.State, Frames.with_joining, declared.place.Place.Place}

module _ {V : Type 0} where
  -- the default for a number that is no system's: no ops, writer 0
  abbrev pub default_system : Meaning V
  default_system = new_system (record { ops = []; start = Zero }) 0

  -- the default for a number that is no place's: no conditions, join frame 1
  abbrev pub default_place : Place V
  default_place = record { conditions = []; join = 1 }

-- it writes as this number, and was given nothing
pub record IsNew {V : Type 0} (i : ℕ) (m : Meaning V) : Type 0 where
  pub writer : m.writer ≡ i
  pub places : (t : ℕ) → m.places t ≡ 0

module _ {V : Type 0} where
  -- the job of a system that was given nothing, with the conditions of its place
  abbrev pub new_job : Meaning V → Place V → Job V
  new_job system place = record { system = system; conditions = map new_asked place.conditions }

  -- a system that hasn't joined
  abbrev pub waiting_member : Meaning V → Place V → Member V
  waiting_member system place =
      record { job = new_job system place; join = place.join; totals = λ t. no_totals }

module _ {V : Type 0} {values : Values V} where
  -- No frame was run, and nobody has joined.
  abbrev pub before_joining : List (Meaning V) → List (Place V) → List Rule → ℕ → ℕ
      → WorldState values → State values
  before_joining systems places rules types resources world = record {
    systems = length systems;
    members =
        λ i. waiting_member (slice_index_or systems i default_system)
        (slice_index_or places i default_place);
    rules = rules;
    types = types;
    resources = resources;
    world = world;
    frames = 0;
  }

  -- No frame was run, and those of join 1 have joined.
  abbrev pub first_state : List (Meaning V) → List (Place V) → List Rule → ℕ → ℕ
      → WorldState values → State values
  first_state systems places rules types resources world =
      with_joining 1 (before_joining systems places rules types resources world)
