-- A last system that observes the others.
use Rattle.std.specs.Prelude.{All, List, [], false, filter, length, map, not, suc, ℕ, ◌++◌, ◌<◌, ◌==◌, ◌∷◌, ◌≡◌, ◌≢◌}
use Rattle.msg_world.specs.{Prelude.Values, Prelude.WorldState, declared.part.Part.Part}
use Rattle.msg_order.specs.declared.rule.Rule.{Rule}
use Rattle.msg_system.specs.Prelude.{Meaning}
use Rattle.msg_frames.specs.{declared.frame.Frame.Frame, declared.log.Log.Log, declared.place.Place.Place}
use Rattle.msg_frames.specs.Prelude.{State, first_state, run}

-- the rules but those that put others before system n
abbrev pub rules_without : ℕ → List Rule → List Rule
rules_without n rules = filter (λ rule. not (rule.later == n)) rules

-- The state t is s without its last system, which writes nothing, and which no rule puts before
-- another. The rules that put others before it are gone with it.
pub record IsWithoutObserver {V : Type 0} {values : Values V} (s t : State values) : Type 0 where
  pub last : s.systems ≡ suc t.systems
  pub others : (i : ℕ) → i < t.systems → t.members i ≡ s.members i
  pub quiet : (p : Part) → (s.members t.systems).job.system.needs.writes p ≡ false
  pub behind : All (λ rule. rule.earlier ≢ t.systems) s.rules
  pub rules : t.rules ≡ rules_without t.systems s.rules
  pub types : t.types ≡ s.types
  pub resources : t.resources ≡ s.resources
  pub world : t.world ≡ s.world
  pub frames : t.frames ≡ s.frames

module _ {V : Type 0} where
  -- a log without the turns of system n
  abbrev pub without_turns_of : ℕ → Log V → Log V
  without_turns_of n log = record log { turns = filter (λ turn. not (turn.system == n)) log.turns }

-- An observer disturbs nobody. With it and without it frames leave the same world and the same of
-- each other system, and log the same but for its own turns.
abbrev pub ObserversDisturbNobody : {V : Type 0} → Values V → Type 0
ObserversDisturbNobody {V} values = (frames : List (Frame V)) (s t : State values)
    → IsWithoutObserver s t
    → IsWithoutObserver (run frames s).state (run frames t).state
    × (map (without_turns_of t.systems) (run frames s).logs ≡ (run frames t).logs)

-- So begin two engines of the same systems if one has an observer more.
abbrev pub ObserversMayBeAdded : {V : Type 0} → Values V → Type 0
ObserversMayBeAdded {V} values = (systems : List (Meaning V)) (observer : Meaning V)
    (places : List (Place V)) (place : Place V) (rules : List Rule) (types resources : ℕ)
    (world : WorldState values)
    → length places ≡ length systems → ((p : Part) → observer.needs.writes p ≡ false)
    → All (λ rule. rule.earlier ≢ length systems) rules
    → IsWithoutObserver
    (first_state (systems ++ observer ∷ []) (places ++ place ∷ []) rules types resources world)
    (first_state systems places (rules_without (length systems) rules) types resources world)
