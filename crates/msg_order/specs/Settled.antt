-- The settled order, its batches and its turns, as functions.
use Rattle.std.specs.Prelude.{Bool, List, [], false, filter, flat_map, if◌then◌else◌, length, map, not, slice_index_or, suc, zero, ℕ, ◌&&◌, ◌+◌, ◌-◌, ◌∷◌}
use Rattle.std.specs.List.{concat, list_any, range_with_len}
use Rattle.msg_order.specs.{Graph.Graph, Graph.path, declared.rule.Rule.Rule}

-- whether system i has joined; a number that is no system's hasn't
abbrev pub has_joined : List Bool → ℕ → Bool
has_joined joined i = slice_index_or joined i false

-- the rules as edges
abbrev pub edges_of : List Rule → Graph
edges_of rules = map (λ rule. (rule.earlier, rule.later)) rules

-- the rules among the joined systems
abbrev pub rules_among : List Bool → List Rule → Graph
rules_among joined rules = filter (λ e. has_joined joined e.0 && has_joined joined e.1)
    (edges_of rules)

-- the pairs of numbers below n, the lower one first, taken by the first and then by the second
abbrev pub pairs : ℕ → List (ℕ × ℕ)
pairs n = flat_map (λ i. map (λ j. (i, j)) (range_with_len (i + 1) (n - (i + 1))))
    (range_with_len 0 n)

-- each of these pairs in turn adds an edge if the two are in conflict and no path leads back
abbrev pub settle : (ℕ → ℕ → Bool) → Graph → List (ℕ × ℕ) → Graph
settle conflict g [] = g
settle conflict g (p ∷ ps) =
    settle conflict (if conflict p.0 p.1 && not (path g p.1 p.0) then p ∷ g else g) ps

-- The settled order of those that have joined: their rules, and then the pairs of them in conflict.
abbrev pub settled : (ℕ → ℕ → Bool) → List Rule → List Bool → Graph
settled conflict rules joined =
    settle (λ i j. (has_joined joined i && has_joined joined j) && conflict i j)
    (rules_among joined rules) (pairs (length joined))

-- one of these comes before i
abbrev pub follows : Graph → List ℕ → ℕ → Bool
follows g left i = list_any (λ k. path g k i) left

-- At most so many batches of these systems: the first has those that no other of them comes before,
-- and the rest make the batches after it.
abbrev pub batches_of : ℕ → Graph → List ℕ → List (List ℕ)
batches_of zero g left = []
batches_of (suc n) g [] = []
batches_of (suc n) g (i ∷ is) = filter (λ k. not (follows g (i ∷ is) k)) (i ∷ is)
    ∷ batches_of n g (filter (follows g (i ∷ is)) (i ∷ is))

-- The batches of those that have joined: at most one for each system, which is enough if there is no
-- cycle.
abbrev pub batches : Graph → List Bool → List (List ℕ)
batches g joined = batches_of (length joined) g
    (filter (has_joined joined) (range_with_len 0 (length joined)))

-- the turn order: batch after batch, each by addition
abbrev pub turns : Graph → List Bool → List ℕ
turns g joined = concat (batches g joined)
