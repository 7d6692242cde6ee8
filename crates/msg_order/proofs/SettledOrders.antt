-- The settled order: where it leads, whom it orders, and that any test of conflicts makes the same.
use Rattle.std.proofs.Common.{Bool, IsTrue, List, ap, arith, false, inl, inr, length, ℕ, ◌&&◌, ◌<◌, ◌↔◌, ◌≡◌, ◌≢◌, ◌⊎◌}
use Rattle.std.proofs.lemmas.{Bool.and_from, Bool.and_parts, Bool.cases_Bool, Bool.cases_order, Bool.Decides.eqb_tells}
use Rattle.msg_world.specs.{Prelude.Conflict, declared.access.Access.Access}
use Rattle.msg_world.proofs.{Bits.share_bit-and, Conflicts.collides, Conflicts.conflicts_lem}
use Rattle.msg_order.specs.inner.Paths.{conflict_among}
use Rattle.msg_order.specs.Prelude.{ConflictingSystemsAreOrdered, FewerSystemsMakeNoCycle, IsAcyclic, IsAmong, NameSystemsBelow, Path, Rule, TellsConflicts, access_of, edges_of, has_joined, pairs, path, rules_among, settle, settled}
use Rattle.msg_order.proofs.Chains.{path_grows}
use Rattle.msg_order.proofs.Elements.{Contains-cases, Contains-filter, filter-Contains}
use Rattle.msg_order.proofs.PathTest.{no_Path, no_path, path_trans, same_test, to_Path}
use Rattle.msg_order.proofs.SetPaths.{joined_in}
use Rattle.msg_order.proofs.SettledPairs.{Contains-pairs, pairs-Contains, settle_covers, settle_keeps}

module _ (rules : List Rule) (joined : List Bool) (conflict : ℕ → ℕ → Bool) where
  -- it leads only among those that have joined
  pub settled_among : IsAmong joined (settled conflict rules joined)
  settled_among =
      settle_keeps (conflict_among joined conflict) (IsAmong joined) (pairs (length joined)) (rules_among joined rules)
      (λ p k m test free among i j e. grind (arith, among i j, Contains-cases p k (i, j) e, and_parts, test))
      (λ i j e. and_parts _ _ (filter-Contains _ (edges_of rules) (i, j) e).1)

  -- it has no cycle if the rules make none
  pub settled_no_cycle : IsAcyclic (rules_among joined rules) → IsAcyclic (settled conflict rules joined)
  settled_no_cycle free i =
      no_Path _ i i (settle_keeps (conflict_among joined conflict) (λ k. (s : ℕ) → path k s s ≡ false)
      (pairs (length joined)) (rules_among joined rules) (λ p k m test back free s.
      let rises = pairs-Contains (length joined) p.0 p.1 m in
      grind (arith, cases_Bool, eqb_tells, free, back, path_trans k, rises))
      (λ k. no_path _ k k (free k)) i)

  orders_up : (i j : ℕ) → i < j → IsTrue (has_joined joined i) → IsTrue (has_joined joined j) → IsTrue (conflict i j)
      → Path (settled conflict rules joined) i j ⊎ Path (settled conflict rules joined) j i
  orders_up i j lt at_i at_j is =
      elim (settle_covers (conflict_among joined conflict) (pairs (length joined)) (rules_among joined rules) i j
      (Contains-pairs (length joined) i j lt (joined_in joined j at_j)) (and_from _ _ (and_from _ _ at_i at_j) is)) [
        | inl p ↦ inl (to_Path _ i j p)
        | inr p ↦ inr (to_Path _ j i p)
      ]

  -- one of two in conflict comes before the other
  pub settled_orders : (i j : ℕ) → i ≢ j → IsTrue (has_joined joined i) → IsTrue (has_joined joined j)
      → IsTrue (conflict i j) → IsTrue (conflict j i)
      → Path (settled conflict rules joined) i j ⊎ Path (settled conflict rules joined) j i
  settled_orders i j ne at_i at_j is back =
      let up = λ (lt : i < j). orders_up i j lt at_i at_j is in
      let down = λ (lt : j < i). orders_up j i lt at_j at_i back in
      grind (arith, cases_order i j, up, down)

-- rules that make no cycle among some systems make none among fewer
pub fewer_make_none : FewerSystemsMakeNoCycle
fewer_make_none rules joined fewer among free i p =
    let both = λ (bs : List Bool) (e : ℕ × ℕ). has_joined bs e.0 && has_joined bs e.1 in
    let out = filter-Contains (both fewer) (edges_of rules) in
    let in_ = Contains-filter (both joined) (edges_of rules) in
    free i (path_grows (rules_among fewer rules) (rules_among joined rules)
    (λ a b e. grind (arith, out (a, b) e, in_ (a, b), and_parts, and_from, among)) i i p)

-- if rules make no cycle, they make none among those that have joined
pub none_more : (n : ℕ) (rules : List Rule) → NameSystemsBelow n rules → IsAcyclic (edges_of rules) → (joined : List Bool)
    → length joined ≡ n → IsAcyclic (rules_among joined rules)
none_more n rules below none joined size i p = none i (path_grows (rules_among joined rules) (edges_of rules)
    (λ a b e. (filter-Contains _ (edges_of rules) (a, b) e).0) i i p)

-- ---- tests of conflicts

-- the masks of two accesses make a test
test_of : (a b : Access) → (test : Bool) × (IsTrue test ↔ Conflict a b)
test_of a b = (
  _,
  conflicts_lem a b _ _
      (collides a.read_types a.write_types b.read_types b.write_types _ _ (share_bit-and _ _) (share_bit-and _ _))
      (collides a.read_res a.write_res b.read_res b.write_res _ _ (share_bit-and _ _) (share_bit-and _ _)),
)

pub some_test : (accesses : List Access) (joined : List Bool) → (conflict : ℕ → ℕ → Bool)
    × TellsConflicts accesses joined conflict
some_test accesses joined = (
  λ i j. (test_of (access_of accesses i) (access_of accesses j)).0,
  λ i j at_i at_j. (test_of (access_of accesses i) (access_of accesses j)).1,
)

-- whatever test tells the conflicts, it makes one order
pub settled_only : (accesses : List Access) (rules : List Rule) (joined : List Bool) (a b : ℕ → ℕ → Bool)
    → TellsConflicts accesses joined a → TellsConflicts accesses joined b → settled a rules joined ≡ settled b rules joined
settled_only accesses rules joined a b tells_a tells_b =
    let alike = λ (i j : ℕ) (at_i : IsTrue (has_joined joined i)) (at_j : IsTrue (has_joined joined j)). same_test (a i j) (b i j)
    (λ t. (tells_b i j at_i at_j).1 ((tells_a i j at_i at_j).0 t)) (λ t. (tells_a i j at_i at_j).1 ((tells_b i j at_i at_j).0 t)) in
    let same = λ (i j : ℕ). same_test (conflict_among joined a i j) (conflict_among joined b i j)
    (λ t. grind (arith, cases_Bool, alike i j, t)) (λ t. grind (arith, cases_Bool, alike i j, t)) in
    ap (λ (test : ℕ → ℕ → Bool). settle test (rules_among joined rules) (pairs (length joined))) (λ k i j. same i j k)

pub conflicts_ordered : ConflictingSystemsAreOrdered
conflicts_ordered accesses rules joined conflict tells i j ne at_i at_j c =
    let back : Conflict (access_of accesses j) (access_of accesses i) = (c.0, grind (arith, c.1)) in
    settled_orders rules joined conflict i j ne at_i at_j ((tells i j at_i at_j).1 c) ((tells j i at_j at_i).1 back)
