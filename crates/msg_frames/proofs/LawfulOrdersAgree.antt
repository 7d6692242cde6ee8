-- Two lawful orders of turns leave the same.
use Rattle.std.proofs.Common.{All, AllPairs, Bool, Contains, IsPermutation, IsTrue, List, [], arith, get_or, length, refl, ℕ, ◌++◌, ◌<◌, ◌↔◌, ◌∙◌, ◌∷◌, ◌≡◌, ◌≢◌, ◌⊎◌}
use Rattle.std.proofs.lemmas.{Bool.cases_order, Grind.get_or_default_zero}
use Rattle.std.proofs.lemmas.List.Elements.{All-contains, All-tail, Contains-append_left, Contains-get_or}
use Rattle.std.proofs.lemmas.List.Sorted.{Contains-permutation, IsPermutation-cons, IsPermutation-middle, IsPermutation-refl, IsPermutation-sym, IsPermutation-trans}
use Rattle.std.proofs.lemmas.Option.{get_or_from_slice_get, slice_get_within}
use Rattle.msg_world.specs.{Prelude.Conflict, Prelude.Values, declared.access.Access.Access}
use Rattle.msg_order.proofs.{Elements.Contains-cases, Elements.Contains-head, Elements.Contains-tail, Elements.not_in_none, SettledOrders.conflicts_ordered, TurnOrders.in_lawful_order, TurnOrders.kept_along}
use Rattle.msg_order.specs.Prelude.{Graph, IsLawfulOrder, Path, TellsConflicts, access_of, has_joined, settled}
use Rattle.msg_system.specs.Prelude.{JobFootprint}
use Rattle.msg_frames.specs.{Frames.settled_order, Frames.turn_order, Prelude.AreAccessesOf, Prelude.FramesAgreeInLawfulOrders, Prelude.State, Prelude.Turn, Prelude.after_turn_of, Prelude.after_turns_of, Prelude.are_in_conflict, Prelude.before_turns, Prelude.join_flags, Prelude.logged_turn}
use Rattle.msg_frames.proofs.TurnsCommute.{turns_commute}
use Rattle.msg_frames.proofs.ElementsAndPairs.{Cut, cut, pairs_head, pairs_middle, pairs_tail}
use Rattle.msg_frames.proofs.Functions.{conflicts_tell, order_among, order_is}
use Rattle.msg_frames.proofs.ReplaysTellTheSame.{once_moved}
use Rattle.msg_frames.proofs.SystemsStay.{accesses_stay, before_keeps, joined_below, no_cycle_stays, one_turn_keeps, uses_stay}

-- in either order of turns the same is left, and the turns are the same
abbrev pub SameRun : {V : Type 0} → Values V → List Access → List ℕ → List ℕ → Type 0
SameRun values accesses is js = (s : State values) → AreAccessesOf s accesses
    → ((after_turns_of is s).state ≡ (after_turns_of js s).state)
    × IsPermutation (after_turns_of is s).turns (after_turns_of js s).turns

-- y is a system other than x, with which it isn't in conflict
abbrev pub IsFree : List Access → ℕ → ℕ → Type 0
IsFree accesses x y = (y < length accesses) × (y ≢ x) × ¬ Conflict (access_of accesses y) (access_of accesses x)

module _ {V : Type 0} {values : Values V} (accesses : List Access) where
  run_along : (is js ks : List ℕ) → SameRun values accesses is js → SameRun values accesses js ks → SameRun values accesses is ks
  run_along is js ks a b s are = ((a s are).0 ∙ (b s are).0, IsPermutation-trans _ _ _ (a s are).1 (b s are).1)

  run_later : (x : ℕ) (is js : List ℕ) → SameRun values accesses is js → SameRun values accesses (x ∷ is) (x ∷ js)
  run_later x is js a s are =
      let r = a (after_turn_of x s) (accesses_stay _ _ _ (one_turn_keeps _ _) are) in
      (r.0, IsPermutation-cons (logged_turn s x) _ _ r.1)

  -- what is free of all before it moves to the front
  run_to_front : JobFootprint values → (x : ℕ) (before rest : List ℕ) → x < length accesses
      → All (IsFree accesses x) before → SameRun values accesses (before ++ x ∷ rest) (x ∷ before ++ rest)
  run_to_front foot x [] rest lx free s are = (refl, IsPermutation-refl (after_turns_of (x ∷ rest) s).turns)
  run_to_front foot x (y ∷ before) rest lx free s are =
      let here : IsFree accesses x y = free 0 y (omega arith) in
      let to_front = run_to_front foot x before rest lx (All-tail (IsFree accesses x) y before free) in
      let later = run_later y (before ++ x ∷ rest) (x ∷ before ++ rest) to_front s are in
      let e = turns_commute foot s accesses y x are (rw (are.each) at here.0) (rw (are.each) at lx) here.1 here.2 in
      let turns : List (Turn V) = (after_turns_of (before ++ rest) (after_turn_of x (after_turn_of y s))).turns in
      let swapped = IsPermutation-middle (logged_turn s y ∷ []) (logged_turn s x) turns in
      grind (arith, later, e, swapped, IsPermutation-trans)

-- ---- two orders of the same systems

-- no edge leads back
abbrev pub Forward : (ℕ → ℕ → Type 0) → List ℕ → Type 0
Forward P order = AllPairs (λ i j. ¬ P j i) order

-- without what stands once, the others are left
without : (xs : List ℕ) (y : ℕ) (ys : List ℕ) → AllPairs (λ i j. i ≢ j) (xs ++ y ∷ ys) → (i : ℕ)
    → Contains (xs ++ ys) i ↔ (Contains (xs ++ y ∷ ys) i × (i ≢ y))
without xs y ys once i =
    let moved = IsPermutation-middle xs y ys in
    let others = pairs_head (λ i j. i ≢ j) y (xs ++ ys)
    (once_moved (y ∷ xs ++ ys) (xs ++ y ∷ ys) (IsPermutation-sym _ _ moved) once) in
    let back = Contains-permutation _ _ i (IsPermutation-sym _ _ moved) in
    let front = Contains-permutation _ _ i moved in
    let differs = All-contains (λ x. y ≢ x) (xs ++ ys) i others in
    grind (arith, back, front, differs, Contains-tail y (xs ++ ys) i, Contains-cases y (xs ++ ys) i)

-- The systems of J are below, and two of them in conflict are joined by a path.
module _ {V : Type 0} {values : Values V} (foot : JobFootprint values) (accesses : List Access) (P : ℕ → ℕ → Type 0) (J : ℕ → Type 0)
    (below : (i : ℕ) → J i → i < length accesses)
    (joins : (i j : ℕ) → J i → J j → i ≢ j → Conflict (access_of accesses i) (access_of accesses j) → P i j ⊎ P j i)
  where
    pub reordered : (settled order : List ℕ) → All J settled → ((i : ℕ) → Contains order i ↔ Contains settled i)
        → AllPairs (λ i j. i ≢ j) settled → AllPairs (λ i j. i ≢ j) order → Forward P settled → Forward P order
        → SameRun values accesses order settled
    reordered [] [] all same once once' a b = λ s are. (refl, IsPermutation-refl [])
    reordered [] (y ∷ ys) all same once once' a b = absurd (not_in_none y ((same y).0 (Contains-head y ys)))
    reordered (x ∷ rest) order all same once once' a b =
        let c : Cut order x = cut order x ((same x).1 (Contains-head x rest)) in
        let single : AllPairs (λ i j. i ≢ j) (c.before ++ x ∷ c.rest) = rw (c.is) at once' in
        let parts = pairs_middle (λ i j. i ≢ j) c.before x c.rest single in
        let ahead = pairs_middle (λ i j. ¬ P j i) c.before x c.rest (rw (c.is) at b) in
        let others : (i : ℕ) → Contains (c.before ++ c.rest) i ↔ Contains rest i = λ i.
        grind (arith, c.is, same i, without c.before x c.rest single i, without [] x rest once i) in
        let here : J x = all 0 x (omega arith) in
        let later : All J rest = All-tail J x rest all in
        let free : All (IsFree accesses x) c.before = λ k d lt.
        let y : ℕ = get_or c.before k d in
        let inside = (others y).0 (Contains-append_left c.before c.rest y (Contains-get_or c.before k d lt)) in
        let joined : J y = All-contains J rest y later inside in
        let forward = All-contains (λ z. ¬ P z x) rest y (pairs_head (λ i j. ¬ P j i) x rest a) inside in
        grind (arith, below y joined, parts.0 k d lt, joins y x joined here, forward, ahead.0 k d lt) in
        rw (c.is) (run_along accesses (c.before ++ x ∷ c.rest) (x ∷ c.before ++ c.rest) (x ∷ rest)
        (run_to_front accesses foot x c.before c.rest (below x here) free)
        (run_later accesses x (c.before ++ c.rest) rest
        (reordered rest (c.before ++ c.rest) later others (pairs_tail (λ i j. i ≢ j) x rest once) parts.1
        (pairs_tail (λ i j. ¬ P j i) x rest a) ahead.1)))

-- no path leads back in a lawful order
pub lawful_forward : (g : Graph) (who : List Bool) (order : List ℕ) → IsLawfulOrder g who order
    → Forward (Path g) order
lawful_forward g who order lawful a b d lt l p =
    let s = kept_along g who order lawful (get_or order b d) (get_or order a d) p in
    let one = lawful.once in
    let places = cases_order s.earlier b in
    let others = cases_order s.later a in
    grind (arith, one, places, others, s, get_or_default_zero, get_or_from_slice_get, slice_get_within)

module _ {V : Type 0} {values : Values V} where
  pub orders_agree : JobFootprint values → (s : State values) (accesses : List Access) (conflict : ℕ → ℕ → Bool) (a b : List ℕ)
      → AreAccessesOf s accesses → TellsConflicts accesses (join_flags s) conflict
      → IsLawfulOrder (settled conflict s.rules (join_flags s)) (join_flags s) a
      → IsLawfulOrder (settled conflict s.rules (join_flags s)) (join_flags s) b
      → ((after_turns_of a s).state ≡ (after_turns_of b s).state)
      × IsPermutation (after_turns_of a s).turns (after_turns_of b s).turns
  orders_agree foot s accesses conflict a b are tells la lb =
      let g : Graph = settled conflict s.rules (join_flags s) in
      reordered foot accesses (Path g) (λ i. IsTrue (has_joined (join_flags s) i))
      (λ i joined. rw (are.each) (joined_below s i joined))
      (λ i j p q ne c. conflicts_ordered accesses s.rules (join_flags s) conflict tells i j ne p q c)
      b a (λ k d lt. (lb.of_joined _).0 (Contains-get_or b k d lt)) (λ i. grind (arith, la.of_joined i, lb.of_joined i))
      lb.once la.once (lawful_forward g (join_flags s) b lb) (lawful_forward g (join_flags s) a la) s are

  pub frames_agree : JobFootprint values → FramesAgreeInLawfulOrders values
  unfolding settled_order
  frames_agree foot f s accesses order uses free are lawful =
      let b : State values = before_turns f.posts s in
      let same = before_keeps f.posts s in
      let are' = accesses_stay s b accesses same are in
      let free' = no_cycle_stays s b same free in
      let own = in_lawful_order (settled_order b) (join_flags b) (turn_order b) (order_among b) (order_is b free') in
      let agree = orders_agree foot b accesses (are_in_conflict b) order (turn_order b) are'
      (conflicts_tell b accesses are' (uses_stay s b same uses)) lawful.lawful own in
      (agree.0, record { posts = refl; turns = agree.1 })
