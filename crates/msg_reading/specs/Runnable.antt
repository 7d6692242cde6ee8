-- The state that an engine of a scenario begins in, and what every scenario that was read keeps to.
use Rattle.std.specs.Prelude.{◌≤◌, ◌<◌, IsTrue, All, Bool, true, false, List, [], ◌∷◌, length, map, if◌then◌else◌, ℤ}
use Rattle.std.specs.List.{enumerate_from}
use Rattle.msg_world.specs.{Prelude.WorldState, Prelude.held_world, Prelude.new_world, Prelude.i64_values}
use Rattle.msg_order.specs.Prelude.{IsAcyclic, NameSystemsBelow, edges_of}
use Rattle.msg_system.specs.Prelude.{FitsWorld, HasClash, Meaning, job_needs, new_system, program_needs}
use Rattle.msg_frames.specs.Prelude.{State, first_state}
use Rattle.msg_frames.specs.{declared.frame.Frame.Frame, declared.place.Place.Place}
use Rattle.msg_system.specs.declared.op.Op.{Op}
use Rattle.msg_system.specs.declared.op.Op.TheVariants.{Forward, Sum}
use Rattle.msg_reading.specs.{declared.kind.Kind.Kind, declared.scenario.Scenario.Scenario, declared.scenario.SystemSpec.SystemSpec}
use Rattle.msg_frames.specs.declared.limits.TheConstants.{LAST_JOIN}
use Rattle.msg_system.specs.declared.limits.TheConstants.{MAX_OPS}
use Rattle.msg_world.specs.declared.limits.TheConstants.{MAX_RESOURCES, MAX_SYSTEMS, MAX_TYPES}
use Rattle.msg_reading.specs.declared.kind.Kind.TheVariants.{Relay, Script, Tally}

-- ---- the first state

-- the world before the first frame
abbrev pub first_world : Scenario → WorldState i64_values
first_world s =
    let world =
    new_world i64_values (map (λ named. named.1) s.types)
    (map (λ named. named.1) s.resources) in
    if s.held then held_world world else world

-- the systems, which were given nothing yet; each writes as its number
abbrev pub meanings_of : Scenario → List (Meaning ℤ)
meanings_of s = map (λ x. new_system x.1.program x.0) (enumerate_from 0 s.systems)

-- the conditions and the join frame of each
abbrev pub places_of : Scenario → List (Place ℤ)
places_of s = map (λ x. x.place) s.systems

-- no frame was run, and those of join 1 have joined
abbrev pub state_of : Scenario → State i64_values
state_of s = first_state (meanings_of s) (places_of s) s.rules (length s.types) (length s.resources)
    (first_world s)

-- ---- what may be run

-- a relay's program is one `forward`, a tally's one `sum`, a script's anything
abbrev pub fits_kind : Kind → List (Op ℤ) → Bool
fits_kind Script ops = true
fits_kind Relay (Forward t u ∷ []) = true
fits_kind Tally (Sum t r ∷ []) = true
fits_kind _ _ = false

-- a system of the scenario can be made, and added to an engine over the scenario's world
pub record IsRunnableSystem (s : Scenario) (x : SystemSpec) : Type 0 where
  pub few_ops : length x.program.ops ≤ MAX_OPS
  pub fit_kind : IsTrue (fits_kind x.kind x.program.ops)
  pub fits : FitsWorld (length s.types) (length s.resources)
      (job_needs x.program.ops x.place.conditions)
  pub no_clash : ¬ HasClash (program_needs x.program.ops)
  pub joins : (1 ≤ x.place.join) × (x.place.join ≤ LAST_JOIN)

-- each post of a frame is to a type that there is
abbrev pub PostsAreToTypes : Scenario → Frame ℤ → Type 0
PostsAreToTypes s frame = All (λ p. p.0 < length s.types) frame.posts

-- An engine can be made of the scenario, and all its frames can be run.
pub record IsRunnable (s : Scenario) : Type 0 where
  pub few_types : length s.types ≤ MAX_TYPES
  pub few_resources : length s.resources ≤ MAX_RESOURCES
  pub few_systems : length s.systems ≤ MAX_SYSTEMS
  pub systems : All (IsRunnableSystem s) s.systems
  pub rules_in_range : NameSystemsBelow (length s.systems) s.rules
  pub acyclic : IsAcyclic (edges_of s.rules)
  pub posts : All (PostsAreToTypes s) s.frames
