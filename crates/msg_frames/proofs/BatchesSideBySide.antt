-- The jobs of a batch, side by side.
use Rattle.std.proofs.Common.{All, AllPairs, List, [], arith, map, refl, slice_index_or, suc, ℕ, ◌++◌, ◌<◌, ◌∷◌, ◌≡◌, ◌≢◌}
use Rattle.std.proofs.lemmas.{Bool.cases_Bool, Bool.Decides.eqb_tells, List.Elements.All-tail}
use Rattle.msg_world.specs.{Prelude.Conflict, Prelude.Values, Prelude.merge, declared.access.Access.Access, declared.part.Part.Part}
use Rattle.msg_world.proofs.Loans.{content_merged}
use Rattle.msg_order.specs.Prelude.{NoneConflict, access_of}
use Rattle.msg_system.specs.Prelude.{Agree, JobFootprint, needs_any}
use Rattle.msg_frames.specs.Prelude.{AfterTurns, AreAccessesOf, BatchesRunSideBySide, State, after_turn_of, after_turns_of, all_home, home, logged_turn, member_needs, turn_of}
use Rattle.msg_frames.proofs.{ElementsAndPairs.pairs_tail, TurnsCommute.apart, TurnsCommute.given_by_turn, TurnsCommute.same_world, TurnsCommute.turn_footprint}

-- nothing that system i needs or keeps is otherwise in s than in `start`
record Untouched {V : Type 0} {values : Values V} (start s : State values) (i : ℕ) : Type 0 where
  member : s.members i ≡ start.members i
  world : Agree (needs_any (member_needs (start.members i))) s.world start.world

module _ {V : Type 0} {values : Values V} (foot : JobFootprint values) (accesses : List Access) (start : State values) (are : AreAccessesOf start accesses) where
  given_same : (s : State values) (i : ℕ) → Untouched start s i → given_by_turn (s.members i) (turn_of s i)
      ≡ given_by_turn (start.members i) (turn_of start i)
  given_same s i h =
      rw (h.member) ((turn_footprint foot (start.members i)).same _ s.world start.world (λ p u. u) h.world)

  -- what the access writes is as the turn on `start` leaves it, and all else as it was
  turn_is_home : (s : State values) (i : ℕ) → i < start.systems → Untouched start s i → after_turn_of i s
      ≡ home accesses start i s
  turn_is_home s i lt h =
      let f = turn_footprint foot (start.members i) in
      let same = same_world (turn_of s i).world (merge (access_of accesses i) (turn_of start i).world s.world) (λ p.
      let own = f.alike (needs_any (member_needs (start.members i))) s.world start.world (λ q u. u) h.world p in
      grind (arith, cases_Bool, content_merged, (are.of_needs i lt).writes p, f.kept s.world p, own, h.member)) in
      grind (arith, given_same s i h, same)

  still : (s : State values) (i j : ℕ) → i < start.systems → j < start.systems → i ≢ j
      → ¬ Conflict (access_of accesses i) (access_of accesses j)
      → Untouched start s i → Untouched start s j → Untouched start (after_turn_of i s) j
  still s i j li lj ne none hi hj =
      let free = apart _ _ _ _ (are.of_needs i li) (are.of_needs j lj) none in
      let f = turn_footprint foot (start.members i) in
      grind (arith, eqb_tells, hi.member, hj.member, hj.world, λ (p : Part). f.kept s.world p, free.left)

  from_start : (batch : List ℕ) (s : State values) → All (λ i. i < start.systems) batch → AllPairs (λ i j. i ≢ j) batch
      → NoneConflict accesses batch
      → All (Untouched start s) batch
      → ((after_turns_of batch s).turns ≡ map (logged_turn start) batch)
      × ((after_turns_of batch s).state ≡ all_home accesses start batch s)
  from_start [] s below once none same = (refl, refl)
  from_start (i ∷ is) s below once none same =
      let here : Untouched start s i = same 0 i (omega arith) in
      let li : i < start.systems = below 0 i (omega arith) in
      let rest = from_start is (after_turn_of i s) (All-tail (λ i. i < start.systems) i is below)
      (pairs_tail (λ i j. i ≢ j) i is once)
      (pairs_tail (λ i j. ¬ Conflict (access_of accesses i) (access_of accesses j)) i is none)
      (λ k d lt. still s i (slice_index_or is k d) li (below (suc k) d (omega arith))
      (once 0 (suc k) d (omega arith) (omega arith)) (none 0 (suc k) d (omega arith) (omega arith)) here
      (same (suc k) d (omega arith))) in
      grind (arith, turn_is_home s i li here, rest, given_same s i here)

module _ {V : Type 0} {values : Values V} where
  pub side_by_side : JobFootprint values → BatchesRunSideBySide values
  side_by_side foot s accesses batch are below once none =
      from_start foot accesses s are batch s below once none (λ k d lt. record { member = refl; world = λ p u. refl })

  -- turns that turns_then_more others
  pub turns_then_more : (xs ys : List ℕ) (s : State values) → after_turns_of (xs ++ ys) s ≡
      (let first : AfterTurns values = after_turns_of xs s in
      let rest : AfterTurns values = after_turns_of ys first.state in
      record { state = rest.state; turns = first.turns ++ rest.turns })
  turns_then_more [] ys s = refl
  turns_then_more (x ∷ xs) ys s = grind (arith, turns_then_more xs ys (after_turn_of x s))
