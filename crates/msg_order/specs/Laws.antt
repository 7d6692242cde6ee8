-- Laws of the settled order. Each is the contract of a function of the same name in src/laws.rt.
use Rattle.std.specs.Prelude.{Bool, IsTrue, List, ℕ, ◌<◌, ◌≡◌, ◌≢◌, ◌⊎◌}
use Rattle.msg_world.specs.{Prelude.Conflict, declared.access.Access.Access}
use Rattle.msg_order.specs.declared.rule.Rule.{Rule}
use Rattle.msg_order.specs.Graph.{Graph, IsAcyclic, IsBatchNumber, Path}
use Rattle.msg_order.specs.Order.{AreBatches, IsAmong, IsLawfulOrder, IsTurnOrder, StandsBefore, TellsConflicts, access_of}
use Rattle.msg_order.specs.Settled.{batches, has_joined, rules_among, settled, turns}

-- Rules that make no cycle among some systems make none among fewer of them.
abbrev pub FewerSystemsMakeNoCycle : Type 0
FewerSystemsMakeNoCycle = (rules : List Rule) (joined fewer : List Bool)
    → ((i : ℕ) → IsTrue (has_joined fewer i) → IsTrue (has_joined joined i))
    → IsAcyclic (rules_among joined rules) → IsAcyclic (rules_among fewer rules)

-- The settled order leads among those that have joined. If the rules make no cycle, it has none.
abbrev pub SettlingMakesNoCycle : Type 0
SettlingMakesNoCycle = (conflict : ℕ → ℕ → Bool) (rules : List Rule) (joined : List Bool)
    → IsAmong joined (settled conflict rules joined)
    × (IsAcyclic (rules_among joined rules) → IsAcyclic (settled conflict rules joined))

-- The settled order leads from one of two joined systems in conflict to the other.
abbrev pub ConflictingSystemsAreOrdered : Type 0
ConflictingSystemsAreOrdered = (accesses : List Access) (rules : List Rule) (joined : List Bool)
    (conflict : ℕ → ℕ → Bool) → TellsConflicts accesses joined conflict
    → (i j : ℕ) → i ≢ j → IsTrue (has_joined joined i) → IsTrue (has_joined joined j)
    → Conflict (access_of accesses i) (access_of accesses j)
    → Path (settled conflict rules joined) i j ⊎ Path (settled conflict rules joined) j i

-- There is a test that tells the conflicts. Whichever does, the settled order is the same.
abbrev pub SettledIsTheOrder : Type 0
SettledIsTheOrder = (accesses : List Access) (rules : List Rule) (joined : List Bool)
    → ((conflict : ℕ → ℕ → Bool) × TellsConflicts accesses joined conflict)
    × ((a b : ℕ → ℕ → Bool) → TellsConflicts accesses joined a → TellsConflicts accesses joined b
    → settled a rules joined ≡ settled b rules joined)

-- If no path leads back, the batches are by batch number, and the turns go in that order.
abbrev pub BatchesAreByNumber : Type 0
BatchesAreByNumber = (order : Graph) (joined : List Bool) → IsAmong joined order → IsAcyclic order
    → AreBatches order joined (batches order joined) × IsTurnOrder order joined (turns order joined)

-- A turn order keeps the order: it is a lawful one.
abbrev pub TurnOrderIsLawful : Type 0
TurnOrderIsLawful = (order : Graph) (joined : List Bool) (xs : List ℕ)
    → IsAmong joined order → IsTurnOrder order joined xs → IsLawfulOrder order joined xs

-- A system has one batch number, and the batch numbers rise along a path.
abbrev pub BatchNumbersRise : Type 0
BatchNumbersRise = (order : Graph) (i j m n : ℕ) → IsBatchNumber order i m → IsBatchNumber order j n
    → (i ≡ j → m ≡ n) × (Path order i j → m < n)

-- A lawful order keeps the paths, not the edges alone.
abbrev pub LawfulOrdersKeepPaths : Type 0
LawfulOrdersKeepPaths = (order : Graph) (joined : List Bool) (xs : List ℕ)
    → IsLawfulOrder order joined xs → (i j : ℕ) → Path order i j → StandsBefore xs i j
