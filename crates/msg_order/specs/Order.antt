-- The settled order of systems, its batches and its lawful orders.
use Rattle.std.specs.Prelude.{All, AllPairs, Bool, Contains, IsTrue, List, Some, [], length, slice_get, slice_index_or, ℕ, ◌<◌, ◌↔◌, ◌≡◌, ◌≢◌, ◌⊎◌}
use Rattle.std.specs.List.Sorted.{IsStrictlyIncreasing}
use Rattle.msg_world.specs.{Prelude.Conflict, Prelude.no_access, declared.access.Access.Access}
use Rattle.msg_order.specs.{Graph.Graph, Graph.IsBatchNumber, Graph.IsEdge, Settled.has_joined, declared.rule.Rule.Rule}

-- the access of system i, which uses nothing if there is no such system
abbrev pub access_of : List Access → ℕ → Access
access_of accesses i = slice_index_or accesses i no_access

-- both systems of the rule are below n
abbrev pub NamesBelow : ℕ → Rule → Type 0
NamesBelow n rule = (rule.earlier < n) × (rule.later < n)

-- the rules name systems below n
abbrev pub NameSystemsBelow : ℕ → List Rule → Type 0
NameSystemsBelow n rules = All (NamesBelow n) rules

-- the first rule that names a system from n on
pub record IsFirstUnknown (n : ℕ) (rules : List Rule) (rule : Rule) : Type 0 where
  pub index : ℕ
  pub is : slice_get rules index ≡ Some rule
  pub unknown : ¬ NamesBelow n rule
  pub first : (k : ℕ) (r : Rule) → k < index → slice_get rules k ≡ Some r → NamesBelow n r

-- each edge leads from a joined system to a joined system
abbrev pub IsAmong : List Bool → Graph → Type 0
IsAmong joined g = (i j : ℕ) → IsEdge g i j
    → IsTrue (has_joined joined i) × IsTrue (has_joined joined j)

-- the test says which two of those that have joined are in conflict
abbrev pub TellsConflicts : List Access → List Bool → (ℕ → ℕ → Bool) → Type 0
TellsConflicts accesses joined conflict = (i j : ℕ) → IsTrue (has_joined joined i)
    → IsTrue (has_joined joined j)
    → IsTrue (conflict i j) ↔ Conflict (access_of accesses i) (access_of accesses j)

-- batch b, which is empty past the last one
abbrev pub batch_at : List (List ℕ) → ℕ → List ℕ
batch_at batches b = slice_index_or batches b []

-- The joined systems by batch number, in order of number; each batch lists its own by addition.
pub record AreBatches (g : Graph) (joined : List Bool) (batches : List (List ℕ)) : Type 0 where
  pub of_number : (b i : ℕ)
      → Contains (batch_at batches b) i ↔ (IsTrue (has_joined joined i) × IsBatchNumber g i b)
  pub all : (i : ℕ) → IsTrue (has_joined joined i) → (b : ℕ) × IsBatchNumber g i b
  pub filled : All (λ batch. 0 < length batch) batches
  pub by_addition : All IsStrictlyIncreasing batches

-- the batch number of i is lower than that of j, or they have one number and i was added first
abbrev pub RunsBefore : Graph → ℕ → ℕ → Type 0
RunsBefore g i j = (m n : ℕ) → IsBatchNumber g i m → IsBatchNumber g j n
    → (m < n) ⊎ ((m ≡ n) × (i < j))

-- the joined systems, of which each has a batch number, by that number, and then by addition
pub record IsTurnOrder (g : Graph) (joined : List Bool) (order : List ℕ) : Type 0 where
  pub of_joined : (i : ℕ) → Contains order i ↔ IsTrue (has_joined joined i)
  pub all : (i : ℕ) → IsTrue (has_joined joined i) → (n : ℕ) × IsBatchNumber g i n
  pub in_order : AllPairs (RunsBefore g) order

-- i stands before j in the list
pub record StandsBefore (order : List ℕ) (i j : ℕ) : Type 0 where
  pub earlier : ℕ
  pub later : ℕ
  pub in_order : earlier < later
  pub first : slice_get order earlier ≡ Some i
  pub second : slice_get order later ≡ Some j

-- a list of all joined systems, each once, in which i stands before j for each edge from i to j
pub record IsLawfulOrder (g : Graph) (joined : List Bool) (order : List ℕ) : Type 0 where
  pub of_joined : (i : ℕ) → Contains order i ↔ IsTrue (has_joined joined i)
  pub once : AllPairs (λ i j. i ≢ j) order
  pub kept : (i j : ℕ) → IsEdge g i j → StandsBefore order i j
