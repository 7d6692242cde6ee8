-- What callers see of a plan, by its sets.
use Rattle.std.proofs.Common.{Bool, Contains, List, arith, false, filter, length, map, refl, sym, true, ℕ, ◌<◌, ◌↔◌, ◌≡◌, ◌≤◌}
use Rattle.std.specs.List.{range_with_len}
use Rattle.std.proofs.lemmas.{Bool.cases_lt, Bool.false_from_ne_true, List.get_or_past, List.FromFn.fill_by_all, List.FromFn.get_or-map-range_with_len, List.FromFn.length-map-range_with_len}
use Rattle.msg_order.specs.inner.SystemSet.{has}
use Rattle.msg_order.specs.Prelude.{Graph, IsAmong, IsEdge, IsLawfulOrder, PlanView, Rule, SystemSet, batches, has_joined, path, plan_of, settled, square}
use Rattle.msg_order.specs.inner.Paths.{AreKept, ArePaths, IsSetOf, comes_before, view_of}
use Rattle.msg_order.proofs.{Chains.path_among, Elements.Contains-filter, Elements.Contains-flat_map, Elements.Contains-map, Elements.Contains-range, Elements.filter-Contains, PathTest.edge_path, PathTest.to_Path, SetPaths.joined_in, SettledOrders.settled_among, TurnOrders.kept_along}
use Rattle.msg_world.specs.declared.limits.TheConstants.{MAX_SYSTEMS}

Contains-square : (n i j : ℕ) → i < n → j < n → Contains (square n) (i, j)
Contains-square n i j h l =
    Contains-flat_map (λ (a : ℕ). map (λ (b : ℕ). (a, b)) (range_with_len 0 n)) (range_with_len 0 n) i (i, j)
    (Contains-range 0 n i (omega arith) (omega arith))
    (Contains-map (λ (b : ℕ). (i, b)) (range_with_len 0 n) j (Contains-range 0 n j (omega arith) (omega arith)))

-- pairs that pass a test which holds below n alone
pairs_seen : (test : ℕ × ℕ → Bool) (n i j : ℕ) → (test (i, j) ≡ true → (i < n) × (j < n))
    → IsEdge (filter test (square n)) i j ↔ (test (i, j) ≡ true)
pairs_seen test n i j within =
    let out = filter-Contains test (square n) (i, j) in
    let in_ = Contains-filter test (square n) (i, j) in
    grind (arith, out, in_, within, Contains-square n i j)

-- the pairs of a view are what the sets say
pub seen_edges : (v : PlanView) (before : List SystemSet) (joined : SystemSet) (batches : List (List ℕ))
    → view_of before joined batches ≡ v → AreKept before joined → (i j : ℕ) → IsEdge v.precedes i j
    ↔ (comes_before before i j ≡ true)
seen_edges v before joined batches is kept i j =
    rw (← is) (pairs_seen (λ e. comes_before before e.0 e.1) (length before) i j
    (λ t. let both = kept.among i j t in (kept.within i both.0, kept.within j both.1)))

-- those of a plan are the paths of its order
pub plan_paths : (g : Graph) (joined : List Bool) → IsAmong joined g → (i j : ℕ)
    → IsEdge (plan_of g joined).precedes i j ↔ (path g i j ≡ true)
plan_paths g joined among i j = pairs_seen (λ e. path g e.0 e.1) (length joined) i j (λ t.
    let both = path_among g joined among i j (to_Path g i j t) in (joined_in joined i both.0, joined_in joined j both.1))

pub seen_joined : (v : PlanView) (before : List SystemSet) (joined : SystemSet) (batches : List (List ℕ))
    → view_of before joined batches ≡ v → AreKept before joined → (i : ℕ) → has_joined v.joined i ≡ has joined i
seen_joined v before joined batches is kept i = rw (← is)
    (grind (arith, cases_lt, false_from_ne_true, get_or-map-range_with_len, get_or_past, length-map-range_with_len))

-- sets and batches make the plan of a graph
pub view_is : (g : Graph) (joined : List Bool) (before : List SystemSet) (set : SystemSet) (bs : List (List ℕ))
    → length joined ≡ length before → ArePaths g before → IsSetOf joined set → bs ≡ batches g joined
    → view_of before set bs ≡ plan_of g joined
view_is g joined before set bs len paths is made = rw (← len, made) (λ k. record {
  joined = sym (fill_by_all (has set) joined (length joined) false refl (λ i lt. sym (is i))) k;
  precedes = filter (λ e. paths e.0 e.1 k) (square (length joined));
  batches = batches g joined;
})

-- the sets of a plan lead among the joined systems
pub sets_kept : (g : Graph) (joined : List Bool) (before : List SystemSet) (set : SystemSet) → length before ≤ MAX_SYSTEMS
    → length joined ≡ length before → ArePaths g before → IsSetOf joined set → IsAmong joined g → AreKept before set
sets_kept g joined before set few len paths is among = record {
  few = few;
  within = λ i t. grind (arith, is i, joined_in joined i);
  among = λ i j t. grind (arith, path_among g joined among i j, to_Path g i j, paths i j, is i, is j);
}

-- an order is lawful for the pairs of a plan if it is for the settled order
pub settled_lawful : {B : Type 0} (rules : List Rule) (joined : List Bool) (conflict : ℕ → ℕ → Bool) (v : PlanView) (order : List ℕ)
    → v ≡ plan_of (settled conflict rules joined) joined → B ↔ IsLawfulOrder v.precedes v.joined order
    → B ↔ IsLawfulOrder (settled conflict rules joined) joined order
settled_lawful rules joined conflict v order is tells =
    let g : Graph = settled conflict rules joined in
    let paths = plan_paths g joined (settled_among rules joined conflict) in
    let told = rw is at tells in (
      λ b. record {
        of_joined = (told.0 b).of_joined;
        once = (told.0 b).once;
        kept = λ i j e. (told.0 b).kept i j ((paths i j).1 (edge_path g i j e));
      },
      λ w. told.1 (record {
        of_joined = w.of_joined;
        once = w.once;
        kept = λ i j e. kept_along g joined order w i j (to_Path g i j ((paths i j).0 e));
      }),
    )
