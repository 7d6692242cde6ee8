-- A new engine stands for the first state.
use Rattle.std.proofs.Common.{◌≡◌, ℕ, ◌<◌, ◌≤◌, Bool, List, length, map, Option, Some, None, refl, sym, ap, ◌∙◌, arith, inl, inr, slice_get, slice_index_or}
use Rattle.std.proofs.lemmas.{Bool.cases_lt, Bool.false≢true, List.get_or-map, List.get_or_past, List.length-map, Option.get_or_from_slice_get, Option.slice_get-get_or, List.map-id, Simd.map-map}
use Rattle.std.specs.Global.{Box, Vec}
use Rattle.msg_world.specs.{declared.part.Part.Part, declared.part.Part.TheVariants.OfResource, declared.part.Part.TheVariants.OfType, declared.part.Part.TheVariants.Registry, Prelude.Has, Prelude.HasPart, Prelude.IsWhole, Prelude.Parts, Prelude.PartsStand, Prelude.WorldState, Prelude.Values}
use Rattle.msg_world.specs.declared.limits.TheConstants.{MAX_RESOURCES, MAX_SYSTEMS, MAX_TYPES}
use Rattle.msg_order.specs.declared.rule.Rule.{Rule}
use Rattle.msg_order.specs.Prelude.{IsAcyclic, NameSystemsBelow, access_of, rules_among}
use Rattle.msg_system.specs.Prelude.{Meaning, new_asked}
use Rattle.msg_system.proofs.AccessesUseNeeds.{uses_needs}
use Rattle.msg_frames.specs.declared.place.Place.{Place}
use Rattle.msg_exec.specs.Prelude.{AreJoins, Core, EachIs, GuardedSystem, Lender, LenderStands, MayBeAdded, FixedParts}
use Rattle.msg_exec.specs.{declared.building.Prepared.Prepared, inner.EngineParts.IsPreparedFor, inner.EngineParts.IsGuardedAt, inner.SystemsOut.HaveReadNothing}
use Rattle.msg_frames.specs.Prelude.{AreNew, default_system, default_place, before_joining, State}
use Rattle.msg_exec.proofs.ItemsOfLists.{item_at}
use Rattle.msg_system.specs.declared.condition.Condition.{Condition}

module _ {V : Type 0} where
  conditions_new : (cs : List (Condition V)) → map (λ a. a.condition) (map new_asked cs) ≡ cs
  conditions_new cs = simp (map-map, map-id)

module _ {S V : Type 0} (meaning : S → Meaning V) where
  module _ (world : Parts V) (systems : List S) (places : List (Place V)) (whole : IsWhole world)
      (as_many : length places ≡ length systems) (each : EachIs (MayBeAdded meaning world places) systems) where
    -- system i with its place, as it is found in the lists
    record Found (i : ℕ) : Type 0 where
      x : S
      place : Place V
      sx : slice_get systems i ≡ Some x
      sp : slice_get places i ≡ Some place
      is : slice_index_or (map meaning systems) i default_system ≡ meaning x
      at : slice_index_or places i default_place ≡ place
      may : MayBeAdded meaning world places i x

    found : (i : ℕ) → i < length systems → Found i
    found i lt =
        let x = item_at systems i lt in
        let q = item_at places i (omega (arith, lt, as_many)) in
        record {
          x = x.0;
          place = q.0;
          sx = x.1;
          sp = q.1;
          is = get_or-map meaning systems i x.0 default_system lt ∙ ap meaning (get_or_from_slice_get systems i x.0 x.0 x.1);
          at = get_or_from_slice_get places i q.0 default_place q.1;
          may = each i x.0 x.1;
        }

    -- the state before any has joined
    abbrev first : {values : Values V} → List Rule → WorldState values → State values
    first rules w = before_joining (map meaning systems) places rules (length world.types) (length world.resources) w

    module _ (rules : List Rule) (made : Prepared)
        (prepared : IsPreparedFor meaning (length world.types) systems places rules made)
        (guarded : Vec (Option (Box (GuardedSystem S V)))) (one_each : length guarded.items ≡ length systems)
        (are_guarded : EachIs (IsGuardedAt meaning systems places) guarded.items) where
      -- what lends out the systems, before any has joined
      abbrev pub lender_of : Lender S V
      lender_of = record { world = world; systems = guarded; accesses = made.accesses; totals = made.totals }

      pub parts_stand : {values : Values V} (w : WorldState values) → PartsStand world w
          → LenderStands meaning lender_of (first rules w) × AreJoins made.joins.items (first rules w)
          × HaveReadNothing 1 (first rules w)
      parts_stand w stands =
          let n : length (map meaning systems) ≡ length systems = length-map systems meaning in (
            record {
              systems = one_each ∙ sym n;
              accesses = prepared.one_access_each ∙ sym n;
              totals = prepared.totals_each ∙ sym n;
              members = λ i lt.
                  let f = found i (omega (arith, lt, n)) in
                  let total = item_at made.totals.items i (omega (arith, lt, n, prepared.totals_each)) in
                  let none = prepared.totals i total.0 total.1 in
                  let there = slice_get-get_or guarded.items i None (omega (arith, lt, n, one_each)) in
                  let system = are_guarded i _ there f.x f.place f.sx f.sp in
                  let its = slice_get-get_or made.accesses.items i _ (omega (arith, lt, n, prepared.one_access_each)) in
                  let access = prepared.accesses i (access_of made.accesses.items i) its f.x f.place f.sx f.sp in
                  let fits = f.may.fits f.place f.sp in
                  rw (f.is, f.at)
                  (grind (arith, access, conditions_new, fits, none, system, total.1, uses_needs));
              world = stands;
              whole = whole;
              types = refl;
              resources = refl;
            },
            (let joins = prepared.joins in grind (arith, joins, get_or-map, length-map)),
            λ i t joins. elim (cases_lt i (length systems)) [
              | inl lt ↦ (let f = found i lt in ap (λ (m : Meaning V). m.places t) f.is ∙ f.may.new.places t)
              | inr past ↦ ap (λ (m : Meaning V). m.places t)
                  (get_or_past (map meaning systems) i default_system (omega (arith, past, n)))
            ],
          )

    -- a world has no other parts
    part_of : (p : Part) → (length world.types ≤ MAX_TYPES) × (length world.resources ≤ MAX_RESOURCES) → Has world p → HasPart MAX_TYPES MAX_RESOURCES p
    part_of (OfType t) few has = omega (arith, few, has)
    part_of (OfResource r) few has = omega (arith, few, has)
    part_of Registry few has = has

    pub are_new : {values : Values V} (rules : List Rule) (w : WorldState values) → PartsStand world w
        → (length world.types ≤ MAX_TYPES) × (length world.resources ≤ MAX_RESOURCES)
        → ((joined : List Bool) → length joined ≡ length systems → IsAcyclic (rules_among joined rules))
        → AreNew (map meaning systems) places rules (length world.types) (length world.resources) w
    are_new rules w stands few none = record {
      uses = λ i lt p.
          let f = found i (omega (arith, lt, length-map systems meaning)) in
          rw (f.is, f.at, conditions_new) (λ needed. part_of p few (f.may.fits f.place f.sp p needed));
      no_cycle = λ joined size. none joined (size ∙ length-map systems meaning);
      histories = λ t lt. grind (arith, false≢true, stands (OfType t), whole (OfType t) lt);
      new = λ i lt. (let f = found i (omega (arith, lt, length-map systems meaning)) in rw f.is f.may.new);
      joins = λ k d lt.
          let f = found k (omega (arith, lt, as_many)) in
          rw (get_or_from_slice_get places k f.place d f.sp) (f.may.joins f.place f.sp).0;
    }

    -- the fixed parts of a new engine
    pub fixed_first : {values : Values V} (c : Core S V) (rules : List Rule) (w : WorldState values) → length systems ≤ MAX_SYSTEMS
        → NameSystemsBelow (length systems) rules → c.rules.items ≡ rules → AreJoins c.joins.items (first rules w) → FixedParts c (first rules w)
    fixed_first c rules w few named same joins =
        let n : length (map meaning systems) ≡ length systems = length-map systems meaning in
        record {
          joins = joins;
          rules = same;
          few = omega (arith, few, n);
          early = λ i lt. (let f = found i (omega (arith, lt, n)) in rw f.at (f.may.joins f.place f.sp).1);
          named = rw n named;
        }
