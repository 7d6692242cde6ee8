-- What a plan says, and when there is none.
use Rattle.std.specs.Prelude.{AllPairs, Bool, List, filter, flat_map, length, map, ℕ, ⊤, ◌≡◌}
use Rattle.std.specs.List.{range_with_len}
use Rattle.msg_world.specs.{Prelude.Conflict, declared.access.Access.Access}
use Rattle.msg_order.specs.{declared.plan_refusal.PlanRefusal.PlanRefusal, declared.rule.Rule.Rule}
use Rattle.msg_order.specs.Graph.{Graph, IsLowestOnCycle, path}
use Rattle.msg_order.specs.Order.{TellsConflicts, access_of}
use Rattle.msg_order.specs.Settled.{batches, settled}
use Rattle.msg_order.specs.declared.plan_refusal.PlanRefusal.TheVariants.{Cycle, NoMemory}

-- What callers see of a plan: which systems have joined, each pair of systems of which the first
-- precedes the second, and the batches.
pub record PlanView : Type 0 where
  pub joined : List Bool
  pub precedes : Graph
  pub batches : List (List ℕ)

-- all pairs of numbers below n
abbrev pub square : ℕ → List (ℕ × ℕ)
square n = flat_map (λ i. map (λ j. (i, j)) (range_with_len 0 n)) (range_with_len 0 n)

-- the plan of an order of those that have joined: its paths, and its batches
abbrev pub plan_of : Graph → List Bool → PlanView
plan_of order joined = record {
  joined = joined;
  precedes = filter (λ e. path order e.0 e.1) (square (length joined));
  batches = batches order joined;
}

-- The plan is that of the settled order, by any test that tells the conflicts.
pub record IsPlanOf (accesses : List Access) (rules : List Rule) (joined : List Bool)
    (plan : PlanView) : Type 0 where
  pub is : (conflict : ℕ → ℕ → Bool) → TellsConflicts accesses joined conflict
      → plan ≡ plan_of (settled conflict rules joined) joined

-- no two systems of the batch conflict
abbrev pub NoneConflict : List Access → List ℕ → Type 0
NoneConflict accesses batch =
    AllPairs (λ i j. ¬ Conflict (access_of accesses i) (access_of accesses j)) batch

-- a refusal for a cycle names the lowest system on one
abbrev pub RefusesPlan : Graph → PlanRefusal → Type 0
RefusesPlan rules (Cycle s) = IsLowestOnCycle rules s
RefusesPlan rules NoMemory = ⊤
