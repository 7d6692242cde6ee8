-- The same systems after as many frames have one settled order; so the frames of a run have the orders that are planned.
use Rattle.std.proofs.Common.{◌≡◌, ℕ, suc, ◌+◌, ◌<◌, ◌&&◌, ◌==◌, ◌↔◌, IsTrue, Bool, Contains, List, [], ◌∷◌, length, map, max, nat_le, refl, subst, ◌∙◌, arith}
use Rattle.std.specs.List.{list_any, range_with_len}
use Rattle.std.proofs.lemmas.{Bool.cases_Bool, Bool.Decides.eqb_tells, Simd.map-map}
use Rattle.msg_frames.specs.Prelude.{AreAccessesOf, IsArrangementOf, SameSystems, State, UsesParts, are_in_conflict, before_turns, frame, join_flags, member_needs, needs_conflict, run, turn_order_in}
use Rattle.msg_frames.specs.Frames.{settled_order, turn_order}
use Rattle.msg_frames.specs.declared.{arrangement.Arrangement.Arrangement, frame.Frame.Frame}
use Rattle.msg_order.specs.Prelude.{Graph, IsEdge, PlanView, settled}
use Rattle.msg_order.proofs.Elements.{Contains-list_any, list_any-Contains}
use Rattle.msg_frames.proofs.{FramesInOrder.in_that_order, Functions.plan_is, Functions.run_keeps, SystemsStay.frames_keep, SystemsStay.joined_stay}
use Rattle.msg_advice.specs.Order.{IsPlanFor, plan_in, state_in, turns_in}
use Rattle.msg_world.specs.Prelude.{Values}

module _ {V : Type 0} {values : Values V} where
  same_conflicts : (s u : State values) → SameSystems s u → are_in_conflict u ≡ are_in_conflict s
  same_conflicts s u same =
      let needs : (i : ℕ) → member_needs (u.members i) ≡ member_needs (s.members i) = λ i. grind (arith, same.members i) in
      λ k i j. needs_conflict (needs i k) (needs j k)

  same_order : (s u : State values) → SameSystems s u → u.frames ≡ s.frames
      → (settled_order u ≡ settled_order s) × (join_flags u ≡ join_flags s)
  unfolding settled_order
  same_order s u same frames =
      let flags = joined_stay s u same frames in
      let conflicts = same_conflicts s u same in (λ k. settled (conflicts k) (same.rules k) (flags k), flags)

  -- frames count
  run_counts : (fs : List (Frame V)) (s : State values) → (run fs s).state.frames ≡ s.frames + length fs
  run_counts [] s = omega arith
  run_counts (f ∷ fs) s =
      let here = frames_keep (turn_order (before_turns f.posts s)) f s in
      omega (arith, here.counted, run_counts fs (frame f s).state)

  pub as_planned : (s : State values) (before : List (Frame V)) (f : Frame V)
      → turn_order_in (frame f (run before s).state).log ≡ turns_in (plan_in s (suc (s.frames + length before)))
  unfolding turn_order plan_in
  as_planned s before f =
      let u : State values = (run before s).state in
      let k : ℕ = suc (s.frames + length before) in
      let here = frames_keep [] f u in
      let ready : State values = before_turns f.posts u in
      let same : SameSystems (state_in s k) ready = grind (arith, run_keeps before s, here.before) in
      let order = same_order (state_in s k) ready same (omega (arith, here.counted_before, run_counts before s)) in
      in_that_order f (turn_order ready) u _ refl ∙ rw (order.0, order.1) refl

  pub arrangement_tells : (s : State values) (a : Arrangement) (k : ℕ) (plan : PlanView) → UsesParts s → IsArrangementOf s a
      → 0 < k → IsPlanFor a k plan → plan ≡ plan_in s k
  unfolding plan_in
  arrangement_tells s a k plan uses is some planned =
      let u : State values = state_in s k in
      let at : max 1 k ≡ k = omega (arith, some) in
      let flags : map (λ j. nat_le j k) a.joins.now ≡ join_flags u =
      rw (is.joins, at) (map-map (λ j. nat_le j k) (λ i. (s.members i).join) (range_with_len 0 s.systems)) in
      let accesses : AreAccessesOf u a.accesses.now = record { each = is.accesses.each; of_needs = is.accesses.of_needs } in
      plan_is u a.accesses.now plan uses accesses (rw (← is.rules, ← flags) planned)

-- a test that looks for an edge
edge_tells : (g : Graph) (i j : ℕ) → IsEdge g i j ↔ IsTrue (list_any (λ e. e.0 == i && e.1 == j) g)
edge_tells g i j =
    let test : ℕ × ℕ → Bool = λ e. e.0 == i && e.1 == j in (
      λ c. list_any-Contains test g (i, j) c (grind (arith, cases_Bool, eqb_tells)),
      λ t. let f = Contains-list_any test g t in
          let at : (f.0.0 ≡ i) × (f.0.1 ≡ j) = grind (arith, cases_Bool, eqb_tells, f.1.1) in
          let is : f.0 ≡ (i, j) = λ k. (at.0 k, at.1 k) in
          subst (Contains g) is f.1.0,
    )

-- and what is told of it
pub edge_asked : (g : Graph) (i j : ℕ) (b : Bool) → IsTrue b ↔ IsEdge g i j → b ≡ list_any (λ e. e.0 == i && e.1 == j) g
edge_asked g i j b is = grind (arith, cases_Bool, is, edge_tells g i j)
