-- Edges between systems, and the chains that they make.
use Rattle.std.specs.Prelude.{Bool, Contains, List, [], false, length, ℕ, ⊤, ◌&&◌, ◌++◌, ◌<◌, ◌==◌, ◌||◌, ◌∷◌, ◌≡◌, ◌≤◌}

-- edges, each a pair of the earlier system and the later one
abbrev pub Graph : Type 0
Graph = List (ℕ × ℕ)

-- an edge leads from i to j
abbrev pub IsEdge : Graph → ℕ → ℕ → Type 0
IsEdge g i j = Contains g (i, j)

-- each system of the list is joined to the next by an edge
abbrev pub IsChain : Graph → List ℕ → Type 0
IsChain g (i ∷ (j ∷ more)) = IsEdge g i j × IsChain g (j ∷ more)
IsChain g _ = ⊤

-- a chain of one or more edges leads from i to j
abbrev pub Path : Graph → ℕ → ℕ → Type 0
Path g i j = (between : List ℕ) × IsChain g (i ∷ (between ++ j ∷ []))

-- whether a chain leads from i to j: without edge e, or to where e begins and on from its end
abbrev pub path : Graph → ℕ → ℕ → Bool
path [] i j = false
path (e ∷ g) i j = path g i j || ((i == e.0 || path g i e.0) && (j == e.1 || path g e.1 j))

-- no path leads from a system back to it
abbrev pub IsAcyclic : Graph → Type 0
IsAcyclic g = (i : ℕ) → ¬ Path g i i

-- s is the lowest system from which a path leads back to it
pub record IsLowestOnCycle (g : Graph) (s : ℕ) : Type 0 where
  pub on_cycle : Path g s s
  pub lowest : (r : ℕ) → r < s → ¬ Path g r r

-- n is the length of the longest chain that ends in i, as a number of edges
pub record IsBatchNumber (g : Graph) (i n : ℕ) : Type 0 where
  pub reached : (before : List ℕ) × ((length before ≡ n) × IsChain g (before ++ i ∷ []))
  pub longest : (before : List ℕ) → IsChain g (before ++ i ∷ []) → length before ≤ n
