-- The plan of a frame: the order in which its systems take their turns.
use Rattle.std.specs.Prelude.{ℕ, ◌∷◌, ◌++◌, Bool, not, ◌&&◌, ◌==◌, List, [], Option, find, map, nat_le, option_to_list, slice_get}
use Rattle.std.specs.List.{concat, list_any}
use Rattle.msg_world.specs.Prelude.{Values}
use Rattle.msg_order.specs.Prelude.{IsPlanOf, PlanView, plan_of}
use Rattle.msg_frames.specs.Prelude.{State, join_flags}
use Rattle.msg_frames.specs.Frames.{settled_order}
use Rattle.msg_frames.specs.declared.arrangement.Arrangement.{Arrangement}

module _ {V : Type 0} {values : Values V} where
  -- the state in which the turns of frame k are taken, as far as their order depends on it
  abbrev pub state_in : State values → ℕ → State values
  state_in s k = record s { frames = k }

  -- the plan of frame k of these systems, by the model's settled order
  unfoldable pub plan_in : State values → ℕ → PlanView
  plan_in s k = plan_of (settled_order (state_in s k)) (join_flags (state_in s k))

-- the plan of frame k of what is arranged so
abbrev pub IsPlanFor : Arrangement → ℕ → PlanView → Type 0
IsPlanFor a k =
    IsPlanOf a.accesses.now a.rules.now (map (λ join. nat_le join k) a.joins.now)

-- its systems in the order of their turns
abbrev pub turns_in : PlanView → List ℕ
turns_in plan = concat plan.batches

-- system i has to run before system j
abbrev pub precedes : PlanView → ℕ → ℕ → Bool
precedes plan i j = list_any (λ e. e.0 == i && e.1 == j) plan.precedes

-- system i has to run before system j, and no other stands between them
abbrev pub is_next : PlanView → ℕ → ℕ → Bool
is_next plan i j = precedes plan i j
    && not (list_any (λ b. precedes plan i b && precedes plan b j) (turns_in plan))

-- the first system of a batch that has to run before the first of a chain; before a chain of none
-- the first of the batch
abbrev pub link : PlanView → List ℕ → List ℕ → Option ℕ
link plan batch [] = slice_get batch 0
link plan batch (j ∷ after) = find (λ i. precedes plan i j) batch

-- a chain through all of these batches, from the last one back
abbrev pub chain : PlanView → List (List ℕ) → List ℕ
chain plan [] = []
chain plan (batch ∷ more) = option_to_list (link plan batch (chain plan more)) ++ chain plan more
