-- How the turns of a frame are ordered, and a frame that runs batch by batch.
use Rattle.msg_frames.proofs.{BatchesSideBySide.side_by_side, BatchesSideBySide.turns_then_more, ElementsAndPairs.pairs_left, ElementsAndPairs.pairs_right, Functions.order_among, Functions.order_free, Functions.order_is, SystemsStay.accesses_stay, SystemsStay.turns_keep_systems, TurnsCommute.apart}
use Rattle.msg_frames.specs.{Frames.parts, Frames.settled_order, Frames.turn_order, Prelude.SameSystems, Prelude.State, Prelude.after_turns_of, Prelude.are_in_conflict, Prelude.join_flags, Prelude.member_needs, Prelude.needs_conflict}
use Rattle.msg_laws.specs.Prelude.{FramesRunByBatches, TurnsAreInOrder}
use Rattle.msg_order.proofs.{Functions.batches_are, Functions.settled_orders, TurnOrders.in_lawful_order}
use Rattle.msg_order.specs.Prelude.{NoneConflict, Path, batches, has_joined}
use Rattle.msg_system.proofs.FootprintsHold.{job_footprint}
use Rattle.msg_system.specs.Prelude.{Needs, needs_any}
use Rattle.msg_world.specs.{Prelude.Values, declared.part.Part.Part}
use Rattle.std.proofs.Common.{All, Bool, IsTrue, List, [], ap, arith, get_or-append-add, length, length-append, refl, ℕ, ◌&&◌, ◌++◌, ◌+◌, ◌<◌, ◌∷◌, ◌≡◌, ◌≢◌, ◌⊎◌}
use Rattle.std.proofs.Math.Bool.{or_comm}
use Rattle.std.proofs.lemmas.{List.get_or_append_left, List.Elements.All-tail}
use Rattle.std.specs.List.{concat, list_any}

-- needs are in conflict with others if those are with them
conflict_either : (m n : Needs) → needs_conflict m n ≡ needs_conflict n m
conflict_either m n = ap (λ (test : Part → Bool). list_any test parts)
    (λ k p. or_comm (m.writes p && needs_any n p) (n.writes p && needs_any m p) k)

module _ {V : Type 0} {values : Values V} where
  in_conflict : (s : State values) (i j : ℕ) → i ≢ j → IsTrue (has_joined (join_flags s) i)
      → IsTrue (has_joined (join_flags s) j) → IsTrue (are_in_conflict s i j)
      → Path (settled_order s) i j ⊎ Path (settled_order s) j i
  unfolding settled_order
  in_conflict s i j ne at_i at_j conflict =
      settled_orders s.rules (join_flags s) (are_in_conflict s) i j ne at_i at_j conflict
      (rw (conflict_either (member_needs (s.members j)) (member_needs (s.members i))) conflict)

  -- how those that have joined are ordered
  pub are_ordered : TurnsAreInOrder values
  are_ordered s free = record {
    no_cycle = order_free s free;
    conflicts = in_conflict s;
    by_number = batches_are (settled_order s) (join_flags s) (order_among s) (order_free s free);
    turns = order_is s free;
    once = in_lawful_order (settled_order s) (join_flags s) (turn_order s) (order_among s) (order_is s free);
  }

module _ {X : Type 0} where
  pub all_left : (P : X → Type 0) (xs ys : List X) → All P (xs ++ ys) → All P xs
  all_left P xs ys h k d lt = grind (arith, get_or_append_left xs ys d, length-append xs ys, h k d)

  pub all_right : (P : X → Type 0) (xs ys : List X) → All P (xs ++ ys) → All P ys
  all_right P xs ys h k d lt = grind (arith, get_or-append-add xs ys k d, length-append xs ys, h (length xs + k) d)

module _ {V : Type 0} {values : Values V} where
  pub batch_by_batch : FramesRunByBatches values
  batch_by_batch s accesses [] are below once apart = refl
  batch_by_batch s accesses (batch ∷ batches) are below once apart =
      let now = all_left (λ i. i < s.systems) batch (concat batches) below in
      let first = side_by_side job_footprint s accesses batch are now
      (pairs_left (λ i j. i ≢ j) batch (concat batches) once) (apart 0 batch (omega arith)) in
      let left : State values = (after_turns_of batch s).state in
      let kept : SameSystems s left = turns_keep_systems batch s in
      let rest = batch_by_batch left accesses batches (accesses_stay s left accesses kept are)
      (rw (kept.systems) (all_right (λ i. i < s.systems) batch (concat batches) below))
      (pairs_right (λ i j. i ≢ j) batch (concat batches) once) (All-tail (NoneConflict accesses) batch batches apart) in
      grind (arith, first, rest, turns_then_more batch (concat batches) s)
