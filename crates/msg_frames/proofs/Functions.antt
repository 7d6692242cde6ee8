-- What the functions of the order, of frames and of runs come to.
use Rattle.std.proofs.Common.{All, Bool, Contains, IsTrue, List, [], ap, append_assoc, arith, length, map, refl, sym, ℕ, ◌&&◌, ◌++◌, ◌<◌, ◌||◌, ◌↔◌, ◌∙◌, ◌∷◌, ◌≡◌, ◌≤◌, ◌⊎◌}
use Rattle.std.specs.List.{range_with_len}
use Rattle.std.proofs.lemmas.{Bool.cases_Bool, List.Elements.Contains-append_left, List.Elements.Contains-append_right, List.FromFn.length-map-range_with_len}
use Rattle.msg_world.specs.{declared.access.Access.Access, declared.part.Part.Part}
use Rattle.msg_world.specs.Prelude.{Conflict, HasPart, Values, uses, writes}
use Rattle.msg_world.specs.declared.limits.TheConstants.{MAX_RESOURCES, MAX_SYSTEMS, MAX_TYPES}
use Rattle.msg_world.specs.declared.part.Part.TheVariants.{OfResource, OfType, Registry}
use Rattle.msg_order.specs.Prelude.{IsAcyclic, IsAmong, IsPlanOf, IsTurnOrder, NameSystemsBelow, NoneConflict, PlanView, TellsConflicts, batches, plan_of, settled}
use Rattle.msg_order.proofs.{Elements.Contains-head, Elements.Contains-list_any, Elements.Contains-map, Elements.Contains-range, Elements.list_any-Contains, Functions.batches_are, Functions.settled_among, Functions.settled_no_cycle, Functions.settled_only, Functions.turns_are, TurnOrders.none_conflict}
use Rattle.msg_system.specs.Prelude.{FitsWorld, IsAccessOf, Needs, needs_any}
use Rattle.msg_frames.specs.Frames.{parts, settled_order, turn_order}
use Rattle.msg_frames.specs.declared.arrangement.Arrangement.{Arrangement}
use Rattle.msg_frames.specs.Prelude.{AreAccessesOf, Frame, IsArrangementOf, IsOrderly, Log, NoCycle, SameSystems, State, UsesParts, are_in_conflict, before_turns, frame, join_flags, needs_conflict, run}
use Rattle.msg_frames.proofs.SystemsStay.{frame_keeps, joined_below}

-- ---- conflicts

abbrev types : List Part
types = map OfType (range_with_len 0 MAX_TYPES)

abbrev resources : List Part
resources = map OfResource (range_with_len 0 MAX_RESOURCES)

is_part : (p : Part) → HasPart MAX_TYPES MAX_RESOURCES p → Contains parts p
unfolding parts
is_part (OfType t) lt =
    Contains-append_left (types ++ resources) (Registry ∷ []) _ (Contains-append_left types resources _
    (Contains-map OfType (range_with_len 0 MAX_TYPES) t (Contains-range 0 MAX_TYPES t (omega arith) lt)))
is_part (OfResource r) lt =
    Contains-append_left (types ++ resources) (Registry ∷ []) _ (Contains-append_right types resources _
    (Contains-map OfResource (range_with_len 0 MAX_RESOURCES) r (Contains-range 0 MAX_RESOURCES r (omega arith) lt)))
is_part Registry has = Contains-append_right (types ++ resources) (Registry ∷ []) _ (Contains-head Registry [])

-- a part at which the needs are in conflict
abbrev conflict_at : Needs → Needs → Part → Bool
conflict_at m n p = (m.writes p && needs_any n p) || (n.writes p && needs_any m p)

conflict_at_is : (m n : Needs) (a b : Access) (p : Part) → IsAccessOf m a → IsAccessOf n b
    → IsTrue (conflict_at m n p) ↔ (IsTrue (writes a p && uses b p) ⊎ IsTrue (writes b p && uses a p))
conflict_at_is m n a b p ma nb = grind (arith, cases_Bool, ma.reads p, ma.writes p, nb.reads p, nb.writes p)

conflict_is : (m n : Needs) (a b : Access) → IsAccessOf m a → IsAccessOf n b → FitsWorld MAX_TYPES MAX_RESOURCES m
    → IsTrue (needs_conflict m n) ↔ Conflict a b
conflict_is m n a b ma nb within = (
  λ t. let f = Contains-list_any (conflict_at m n) parts t in
      (f.0, (conflict_at_is m n a b f.0 ma nb).0 f.1.1),
  λ c. let at = (conflict_at_is m n a b c.0 ma nb).1 c.1 in
      list_any-Contains (conflict_at m n) parts c.0 (is_part c.0 (within c.0 (grind (arith, cases_Bool, at)))) at,
)

module _ {V : Type 0} {values : Values V} where
  pub conflicts_tell : (s : State values) (accesses : List Access) → AreAccessesOf s accesses → UsesParts s
      → TellsConflicts accesses (join_flags s) (are_in_conflict s)
  conflicts_tell s accesses are uses i j at_i at_j =
      let li : i < s.systems = joined_below s i at_i in
      let lj : j < s.systems = joined_below s j at_j in
      conflict_is _ _ _ _ (are.of_needs i li) (are.of_needs j lj) (uses i li)

  -- ---- the order of turns

  pub order_is_settled : (s : State values) (accesses : List Access) (conflict : ℕ → ℕ → Bool) → UsesParts s
      → AreAccessesOf s accesses → TellsConflicts accesses (join_flags s) conflict
      → settled_order s ≡ settled conflict s.rules (join_flags s)
  unfolding settled_order
  order_is_settled s accesses conflict uses are tells =
      settled_only accesses s.rules (join_flags s) (are_in_conflict s) conflict (conflicts_tell s accesses are uses) tells

  pub order_among : (s : State values) → IsAmong (join_flags s) (settled_order s)
  unfolding settled_order
  order_among s = settled_among s.rules (join_flags s) (are_in_conflict s)

  pub order_free : (s : State values) → NoCycle s → IsAcyclic (settled_order s)
  unfolding settled_order
  order_free s free = settled_no_cycle s.rules (join_flags s) (are_in_conflict s)
      (free (join_flags s) (length-map-range_with_len _ 0 s.systems))

  -- it is the turn order, if the rules make no cycle
  pub order_is : (s : State values) → NoCycle s → IsTurnOrder (settled_order s) (join_flags s) (turn_order s)
  unfolding turn_order
  order_is s free = turns_are (settled_order s) (join_flags s) (order_among s) (order_free s free)

  -- what a plan of the systems is
  pub plan_is : (s : State values) (accesses : List Access) (plan : PlanView) → UsesParts s → AreAccessesOf s accesses
      → IsPlanOf accesses s.rules (join_flags s) plan → plan ≡ plan_of (settled_order s) (join_flags s)
  unfolding settled_order
  plan_is s accesses plan uses are is = is.is (are_in_conflict s) (conflicts_tell s accesses are uses)

  -- its batches
  pub batches_apart : (s : State values) (accesses : List Access) → UsesParts s → AreAccessesOf s accesses → NoCycle s
      → All (NoneConflict accesses) (batches (settled_order s) (join_flags s))
  unfolding settled_order
  batches_apart s accesses uses are free =
      none_conflict accesses s.rules (join_flags s) (are_in_conflict s) _ (conflicts_tell s accesses are uses)
      (batches_are (settled_order s) (join_flags s) (order_among s) (order_free s free))

  -- there is a plan of what the order comes of
  pub orderly_of : (s : State values) (a : Arrangement) → IsArrangementOf s a → s.systems ≤ MAX_SYSTEMS
      → NameSystemsBelow s.systems s.rules → NoCycle s → IsOrderly a
  orderly_of s a is few named free = record {
    few = omega (arith, is.accesses.each, few);
    one_each = ap length is.joins ∙ length-map-range_with_len _ 0 s.systems ∙ sym is.accesses.each;
    in_range = rw (is.accesses.each, is.rules) named;
    no_cycle = λ joined size. rw is.rules (free joined (size ∙ is.accesses.each));
  }

  -- ---- frames and then others

  pub run_append : (fs gs : List (Frame V)) (s : State values) → run (fs ++ gs) s
      ≡ record {
        state = (run gs (run fs s).state).state;
        logs = (run fs s).logs ++ (run gs (run fs s).state).logs;
        steps = (run fs s).steps ++ (run gs (run fs s).state).steps;
      }
  run_append [] gs s = refl
  run_append (f ∷ fs) gs s = grind (arith, append_assoc, run_append fs gs (frame f s).state)

  pub run_more : (frames : List (Frame V)) (f : Frame V) (s : State values) (logs : List (Log V)) (log : Log V) (m : State values)
      → (logs ≡ (run frames s).logs) × (m ≡ (run frames s).state) → log ≡ (frame f m).log
      → (logs ++ log ∷ [] ≡ (run (frames ++ f ∷ []) s).logs)
      × ((frame f m).state ≡ (run (frames ++ f ∷ []) s).state)
  run_more frames f s logs log m so_far one = rw (so_far.0, one, so_far.1, run_append frames (f ∷ []) s) (refl, refl)

  pub run_keeps : (fs : List (Frame V)) (s : State values) → SameSystems s (run fs s).state
  run_keeps [] s = grind arith
  run_keeps (f ∷ fs) s =
      grind (arith, frame_keeps (turn_order (before_turns f.posts s)) f s, run_keeps fs (frame f s).state)
