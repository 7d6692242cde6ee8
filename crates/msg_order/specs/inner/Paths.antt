-- Paths as the sets of the code keep them: before each system those that precede it. No public
-- contract cites these; that they are the paths of the definitions is proved.
use Rattle.std.specs.Prelude.{Bool, List, filter, length, map, not, slice_index_or, true, ℕ, ◌&&◌, ◌<◌, ◌≡◌, ◌≤◌}
use Rattle.std.specs.List.{range_with_len}
use Rattle.msg_world.specs.{declared.access.Access.Access, declared.limits.TheConstants.MAX_SYSTEMS}
use Rattle.msg_order.specs.{Graph.Graph, Graph.path, Order.TellsConflicts, Plan.PlanView, Plan.square, Settled.has_joined, Settled.pairs, Settled.settle, declared.system_set.SystemSet.SystemSet, inner.SystemSet.has, inner.SystemSet.meets, inner.SystemSet.no_set}

-- the set of those before system j
abbrev pub set_at : List SystemSet → ℕ → SystemSet
set_at before j = slice_index_or before j no_set

-- i is in the set of those before j
abbrev pub comes_before : List SystemSet → ℕ → ℕ → Bool
comes_before before i j = has (set_at before j) i

-- each system from which a path leads on is among the starts
abbrev pub AreStarts : List SystemSet → SystemSet → Type 0
AreStarts before starts = (i j : ℕ) → comes_before before i j ≡ true → has starts i ≡ true

-- the sets are the paths of g
abbrev pub ArePaths : Graph → List SystemSet → Type 0
ArePaths g before = (i j : ℕ) → comes_before before i j ≡ path g i j

-- two that have joined are in conflict
abbrev pub conflict_among : List Bool → (ℕ → ℕ → Bool) → ℕ → ℕ → Bool
conflict_among joined conflict i j = (has_joined joined i && has_joined joined j) && conflict i j

-- the sets are the paths of what g becomes as the pairs are taken, by a test that tells conflicts
abbrev pub AreSettled : List Access → List Bool → Graph → List SystemSet → Type 0
AreSettled accesses joined g before = (conflict : ℕ → ℕ → Bool)
    → TellsConflicts accesses joined conflict
    → ArePaths (settle (conflict_among joined conflict) g (pairs (length joined))) before

-- the set is that of the joined systems
abbrev pub IsSetOf : List Bool → SystemSet → Type 0
IsSetOf joined set = (i : ℕ) → has set i ≡ has_joined joined i

-- system i is left, and no system that is left is before it
abbrev pub is_ready : List SystemSet → SystemSet → ℕ → Bool
is_ready before left i = has left i && not (meets (set_at before i) left)

-- the sets of at most `MAX_SYSTEMS` systems; if one system is before another, both have joined
pub record AreKept (before : List SystemSet) (joined : SystemSet) : Type 0 where
  pub few : length before ≤ MAX_SYSTEMS
  pub within : (i : ℕ) → has joined i ≡ true → i < length before
  pub among : (i j : ℕ) → comes_before before i j ≡ true
      → (has joined i ≡ true) × (has joined j ≡ true)

-- what callers see of a plan with these sets and batches
abbrev pub view_of : List SystemSet → SystemSet → List (List ℕ) → PlanView
view_of before joined batches = record {
  joined = map (has joined) (range_with_len 0 (length before));
  precedes = filter (λ e. comes_before before e.0 e.1) (square (length before));
  batches = batches;
}
