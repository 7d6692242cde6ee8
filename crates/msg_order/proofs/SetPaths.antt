-- The code's sets as the paths of a graph.
use Rattle.std.proofs.Common.{Bool, IsTrue, List, MatchOption, None, Option, Some, [], arith, cond, false, get_or, length, map, nat_lt, not, refl, replicate, sym, take, true, ℕ, ◌&&◌, ◌++◌, ◌+◌, ◌-◌, ◌<◌, ◌==◌, ◌||◌, ◌∙◌, ◌∷◌, ◌≡◌, ◌≤◌}
use Rattle.std.specs.List.{list_any, range_with_len}
use Rattle.std.proofs.lemmas.{Bool.Decides.eqb_tells, Bool.Decides.nat_tests, List.length-replicate, List.get_or-replicate, List.take-replicate}
use Rattle.std.proofs.lemmas.Bool.{and_parts, cases_Bool, cases_lt, eq-eqb, eqb-true, false_from_ne_true, false≢true, or_cases, or_left, or_right}
use Rattle.std.proofs.lemmas.List.{append-nil, get_or-map, get_or-take, get_or_past, length-map, take-map}
use Rattle.std.proofs.lemmas.List.Elements.{All-tail, Contains-append_left, Contains-push, Contains-push_cases, filter_more}
use Rattle.msg_order.specs.Graph.{path}
use Rattle.msg_order.specs.Prelude.{Graph, IsAcyclic, IsLowestOnCycle, NameSystemsBelow, NamesBelow, Rule, SystemSet, edges_of, has_joined, rules_among, settle}
use Rattle.msg_order.specs.inner.Paths.{ArePaths, AreStarts, comes_before, set_at}
use Rattle.msg_order.specs.inner.SystemSet.{has, meets, no_set}
use Rattle.msg_world.specs.{declared.limits.TheConstants.MAX_SYSTEMS}
use Rattle.msg_order.proofs.Elements.{Contains-cases, Contains-list_any, Contains-range, Contains-tail, list_any-Contains, range-Contains}
use Rattle.msg_order.proofs.PathTest.{no_Path, path_trans, same_paths, same_test, to_Path}
use Rattle.msg_order.proofs.SettledPairs.{gains_edge, pairs_until, pairs_until-more, reaches, row_paths, settle_append}
use Rattle.msg_order.proofs.SystemSets.{has-no_set, meets-found, meets-true}

-- past the last set there is none
pub none_past : (before : List SystemSet) (i j : ℕ) → length before ≤ j → comes_before before i j ≡ false
none_past before i j h = grind (arith, get_or_past before j no_set h, has-no_set)

-- what `add_edges` says of its sets
abbrev pub AddsEdges : List SystemSet → ℕ → SystemSet → List SystemSet → Type 0
AddsEdges before from to new = (i j : ℕ) → comes_before new i j
    ≡ (comes_before before i j || ((i == from || comes_before before i from) &&
    (has to j || meets (set_at before j) to)))

-- past the last set nothing meets
pub meets_past : (before : List SystemSet) (to : SystemSet) (j : ℕ) → length before ≤ j
    → meets (set_at before j) to ≡ false
meets_past before to j h = grind (arith, false_from_ne_true, get_or_past before j no_set h, has-no_set, meets-true)

-- a set that lies within the list, with what paths lead to from it, does so too
pub reached_in : (before : List SystemSet) (to reached : SystemSet)
    → ((k : ℕ) → has to k ≡ true → k < length before)
    → ((k : ℕ) → has reached k ≡ (has to k || meets (set_at before k) to))
    → (k : ℕ) → has reached k ≡ true → k < length before
reached_in before to reached within is k e =
    grind (arith, cases_lt, false≢true, or_cases, within k, is k, meets_past before to k)

-- if a set has none of the starts, no path leads on from it
pub leads_nowhere : (before : List SystemSet) (starts to : SystemSet) → AreStarts before starts
    → meets to starts ≡ false → (k : ℕ) → meets (set_at before k) to ≡ false
leads_nowhere before starts to are apart k = false_from_ne_true (meets (set_at before k) to) (λ e.
    let m = meets-true (set_at before k) to e in
    grind (arith, false≢true, are m.0 k m.1.1.0, meets-found to starts m.0 m.1.0 m.1.1.1))

-- edges to no system are none
pub adds_none : (before : List SystemSet) (from : ℕ) (to : SystemSet) → ((k : ℕ) → has to k ≡ false)
    → AddsEdges before from to before
adds_none before from to none i j =
    grind (arith, cases_Bool, false_from_ne_true, meets-true (set_at before j) to, none)

-- the starts, and the system from which edges were added
pub starts_more : (before new : List SystemSet) (from : ℕ) (to starts more : SystemSet) → AreStarts before starts
    → AddsEdges before from to new → ((k : ℕ) → has more k ≡ (k == from || has starts k)) → AreStarts new more
starts_more before new from to starts more are adds is i j e =
    grind (arith, or_cases, or_left, or_right, and_parts, adds i j, is i, are i j, are i from)

-- One edge.
pub adds_edge : (g : Graph) (before new : List SystemSet) (from later : ℕ) (to : SystemSet) → ArePaths g before
    → AddsEdges before from to new → later < MAX_SYSTEMS → ((k : ℕ) → has to k ≡ (k == later))
    → ArePaths ((from, later) ∷ g) new
adds_edge g before new from later to h s few only i j =
    grind (arith, eq-eqb, eqb-true, meets-found, meets-true, or_cases, or_left, or_right, same_test)

-- an edge makes the same paths at the end of a graph as at its front
path-at_end : (g : Graph) (e : ℕ × ℕ) (i j : ℕ) → path (e ∷ g) i j ≡ path (g ++ e ∷ []) i j
path-at_end g e = same_paths (e ∷ g) (g ++ e ∷ [])
    (λ i j h. grind (arith, Contains-cases e g (i, j) h, Contains-push g e, Contains-append_left g (e ∷ [])))
    (λ i j h. grind (arith, Contains-push_cases g e (i, j) h, Contains-tail e g (i, j)))

-- an edge if there is a path already adds none
pub path-again : (g : Graph) (a b : ℕ) → path g a b ≡ true → (i j : ℕ) → path g i j ≡ path ((a, b) ∷ g) i j
path-again g a b p i j = grind (arith, same_test, or_left, or_cases, and_parts, eqb-true, path_trans)

-- a rule among the joined systems adds its edge
pub rule_more : (joined : List Bool) (rules : List Rule) (k : ℕ) (d : Rule) → k < length rules → (i j : ℕ)
    → (let r : Rule = get_or rules k d in let g : Graph = rules_among joined (take k rules) in
    path (rules_among joined (take (k + 1) rules)) i j
    ≡ path (cond (has_joined joined r.earlier && has_joined joined r.later) ((r.earlier, r.later) ∷ g) g) i j)
rule_more joined rules k d h i j =
    let f : Rule → ℕ × ℕ = λ r. (r.earlier, r.later) in
    let p : ℕ × ℕ → Bool = λ e. has_joined joined e.0 && has_joined joined e.1 in
    let more = filter_more p (map f rules) k (f d) in
    let last = path-at_end (rules_among joined (take k rules)) (f (get_or rules k d)) i j in
    grind (arith, more, last, length-map rules f, get_or-map f rules k d (f d) h, take-map f, append-nil)

-- the pairs of system i with the later ones, of which the set `later` has those in conflict, as `later_conflicts` says
pub row_settles : (conflict : ℕ → ℕ → Bool) (g : Graph) (n i : ℕ) (before new : List SystemSet) (later : SystemSet)
    → n ≤ MAX_SYSTEMS → i < n → ((j : ℕ) → IsTrue (conflict i j) → j < n)
    → ((j : ℕ) → has later j ≡ (nat_lt i j && (conflict i j && not (has (set_at before i) j))))
    → AddsEdges before i later new
    → ArePaths (settle conflict g (pairs_until n i)) before → ArePaths (settle conflict g (pairs_until n (i + 1))) new
row_settles conflict g n i before new later few lt below tells adds way =
    let h : Graph = settle conflict g (pairs_until n i) in
    let js : List ℕ = range_with_len (i + 1) (n - (i + 1)) in
    let gains : (j : ℕ) → has later j ≡ gains_edge conflict h i j = λ j. rw (tells j, way j i) refl in
    let tests : (k : ℕ) → (has later k || meets (set_at before k) later) ≡ list_any (reaches conflict h i k) js = λ k.
    let here = list_any-Contains (reaches conflict h i k) js in
    let from = Contains-list_any (reaches conflict h i k) js in
    let meet = meets-found (set_at before k) later in
    let inside = λ (t : ℕ). (Contains-range (i + 1) (n - (i + 1)) t) in
    same_test _ _ (λ e. grind (arith, eqb_tells, meets-true (set_at before k) later, way, here, gains, nat_tests, below, inside))
    (λ e. let r = from e in grind (arith, eqb_tells, r.1.1, gains r.0, cases_Bool, below r.0, way r.0 k, meet)) in
    rw (pairs_until-more n i, settle_append) (λ x k.
    grind (arith, adds x k, way x, tests k, row_paths conflict h i js (λ j c. grind (arith, range-Contains (i + 1) (n - (i + 1)) j c)) x k))

-- a system that has joined has a place in the list
pub joined_in : (joined : List Bool) (i : ℕ) → has_joined joined i ≡ true → i < length joined
joined_in joined i h = grind (arith, cases_lt, false≢true, get_or_past)

pub lowest_by_sets : (g : Graph) (before : List SystemSet) (found : Option ℕ) → ArePaths g before
    → MatchOption found ((s : ℕ) → comes_before before s s ≡ false)
    (λ s. (comes_before before s s ≡ true) × ((r : ℕ) → r < s → comes_before before r r ≡ false))
    → MatchOption found (IsAcyclic g × ArePaths g before) (IsLowestOnCycle g)
lowest_by_sets g before None h none = (λ i. no_Path g i i (sym (h i i) ∙ none i), h)
lowest_by_sets g before (Some s) h found = record {
  on_cycle = to_Path g s s (sym (h s s) ∙ found.0);
  lowest = λ r k. no_Path g r r (sym (h r r) ∙ found.1 r k);
}

-- rules among the first n of systems that have all joined are all the rules
pub all_rules : (m n : ℕ) (rules : List Rule) → n ≤ m → NameSystemsBelow n rules
    → rules_among (take n (replicate m true)) rules ≡ edges_of rules
all_rules m n [] le below = refl
all_rules m n (rule ∷ rules) le below =
    let here : NamesBelow n rule = below 0 rule (omega arith) in
    let rest = all_rules m n rules le (All-tail (NamesBelow n) rule rules below) in
    grind (arith, get_or-take, get_or-replicate, here, rest)

-- nobody is in sets that were just made
pub none_in_sets : (n : ℕ) (set : SystemSet) → ((k : ℕ) → has set k ≡ false) → ArePaths [] (replicate n set)
none_in_sets n set none k t =
    grind (arith, cases_lt t n, get_or-replicate n t set no_set, get_or_past (replicate n set) t no_set, length-replicate, has-no_set, none k)

pub sets_empty : (m n : ℕ) (set : SystemSet) → n ≤ m → ((k : ℕ) → has set k ≡ false) → ArePaths [] (take n (replicate m set))
sets_empty m n set few none = rw (take-replicate n m set few) (none_in_sets n set none)
