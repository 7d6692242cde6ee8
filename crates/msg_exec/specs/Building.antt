-- What a new engine is made of, and when there is none.
use Rattle.std.specs.Prelude.{◌≡◌, ℕ, ◌+◌, ◌<◌, ◌≤◌, List, [], ◌∷◌, length, Some, slice_get}
use Rattle.msg_world.specs.{Prelude.Parts, declared.limits.TheConstants.MAX_SYSTEMS}
use Rattle.msg_order.specs.declared.rule.Rule.{Rule}
use Rattle.msg_order.specs.Prelude.{IsAcyclic, IsFirstUnknown, IsLowestOnCycle, NameSystemsBelow, edges_of}
use Rattle.msg_system.specs.Prelude.{FitsWorld, HasClash, Meaning, with_conditions}
use Rattle.msg_frames.specs.declared.{limits.TheConstants.LAST_JOIN, place.Place.Place}
use Rattle.msg_frames.specs.Prelude.{IsNew}
use Rattle.msg_exec.specs.{declared.build_error.BuildError.BuildError, declared.build_refusal.BuildRefusal.BuildRefusal}
use Rattle.msg_exec.specs.declared.build_error.BuildError.TheVariants.{Full, BadJoin, Misfit, UnknownSystem, Refused}
use Rattle.msg_exec.specs.declared.build_refusal.BuildRefusal.TheVariants.{Clash, Cycle, NoMemory}

module _ {X : Type 0} where
  -- P holds of each item of the list with its number
  abbrev pub EachIs : (ℕ → X → Type 0) → List X → Type 0
  EachIs P xs = (i : ℕ) (x : X) → slice_get xs i ≡ Some x → P i x

-- the frames that a system may join with
abbrev pub IsJoin : ℕ → Type 0
IsJoin join = (1 ≤ join) × (join ≤ LAST_JOIN)

module _ {V : Type 0} where
  -- the world has what a system and its conditions read and write
  abbrev pub SystemFits : Parts V → Meaning V → Place V → Type 0
  SystemFits world m place = FitsWorld (length world.types) (length world.resources)
      (with_conditions m.needs place.conditions)

module _ {S V : Type 0} (meaning : S → Meaning V) where
  -- system i, in its place, may be added to an engine over a world of these parts
  pub record MayBeAdded (world : Parts V) (places : List (Place V)) (i : ℕ) (x : S) : Type 0 where
    -- it writes as its number, and was given nothing
    pub new : IsNew i (meaning x)
    -- the world has what it and its conditions read and write
    pub fits : (place : Place V) → slice_get places i ≡ Some place
        → SystemFits world (meaning x) place
    pub joins : (place : Place V) → slice_get places i ≡ Some place → IsJoin place.join

  -- no system reads and writes one part
  abbrev pub NoneIsClash : List S → Type 0
  NoneIsClash systems = EachIs (λ i x. ¬ HasClash (meaning x).needs) systems

  -- s is the lowest system that reads and writes one part
  pub record IsLowestClash (systems : List S) (s : ℕ) : Type 0 where
    pub system : S
    pub is : slice_get systems s ≡ Some system
    pub clash : HasClash (meaning system).needs
    pub lowest : (r : ℕ) (x : S) → r < s → slice_get systems r ≡ Some x
        → ¬ HasClash (meaning x).needs

  -- A refusal names the lowest system with a clash; else the lowest on a cycle of rules. It is want
  -- of memory only if there is neither.
  abbrev pub RefusesFor : List S → List Rule → BuildRefusal → Type 0
  RefusesFor systems rules (Clash s) = IsLowestClash systems s
  RefusesFor systems rules (Cycle s) = NoneIsClash systems × IsLowestOnCycle (edges_of rules) s
  RefusesFor systems rules NoMemory = NoneIsClash systems × IsAcyclic (edges_of rules)

-- ---- a builder

-- What was added to a builder: systems, a place for each, and rules.
pub record Added (S V : Type 0) : Type 0 where
  pub systems : List S
  pub places : List (Place V)
  pub rules : List Rule

module _ {V : Type 0} where
  -- each writes as its number, from n on, and has read nothing
  abbrev pub numbered_from : ℕ → List (Meaning V) → List (Meaning V)
  numbered_from n [] = []
  numbered_from n (m ∷ ms) = record m { writer = n; places = λ t. 0 } ∷ numbered_from (n + 1) ms

-- why a system isn't added to so many, to join with this frame: there are too many; else it can't
-- join with that frame; and only if it might be added there is no memory
abbrev pub RefusesToAdd : ℕ → ℕ → BuildError → Type 0
RefusesToAdd systems join Full = MAX_SYSTEMS ≤ systems
RefusesToAdd systems join (BadJoin frame) = (systems < MAX_SYSTEMS) × (frame ≡ join) × ¬ IsJoin join
RefusesToAdd systems join (Refused NoMemory) = (systems < MAX_SYSTEMS) × IsJoin join
RefusesToAdd systems join _ = ⊥

module _ {S V : Type 0} (meaning : S → Meaning V) where
  -- the systems below n fit the world in their places
  abbrev pub FitBelow : ℕ → Parts V → List S → List (Place V) → Type 0
  FitBelow n world systems places = (i : ℕ) (x : S) (place : Place V) → i < n → slice_get systems i
      ≡ Some x → slice_get places i ≡ Some place
      → SystemFits world (meaning x) place

  -- all systems fit the world in their places
  abbrev pub AllFit : Parts V → List S → List (Place V) → Type 0
  AllFit world systems places = FitBelow (length systems) world systems places

  -- s is the lowest system that doesn't fit the world in its place
  pub record IsLowestMisfit (world : Parts V) (systems : List S) (places : List (Place V))
      (s : ℕ) : Type 0 where
    pub system : S
    pub place : Place V
    pub is : slice_get systems s ≡ Some system
    pub placed : slice_get places s ≡ Some place
    pub misfit : ¬ SystemFits world (meaning system) place
    pub lowest : FitBelow s world systems places

  -- Why no engine is made: a system that doesn't fit; else a rule without its system; else what
  -- `EngineOf::new` refuses.
  abbrev pub RefusesToBuild : Parts V → Added S V → BuildError → Type 0
  RefusesToBuild world a (Misfit s) = IsLowestMisfit world a.systems a.places s
  RefusesToBuild world a (UnknownSystem rule) = AllFit world a.systems a.places
      × IsFirstUnknown (length a.systems) a.rules rule
  RefusesToBuild world a (Refused refusal) =
      AllFit world a.systems a.places × NameSystemsBelow (length a.systems) a.rules
      × RefusesFor meaning a.systems a.rules refusal
  RefusesToBuild world a _ = ⊥
