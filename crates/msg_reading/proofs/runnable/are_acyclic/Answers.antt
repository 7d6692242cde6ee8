use Rattle.std.proofs.Common.{arith, ◌≡◌, ℕ, Bool, true, false, not, Option, None, Some, is_some, IfNone, IfSome, IsTrue, ◌↔◌}
use Rattle.msg_order.specs.Prelude.{Graph, IsAcyclic, IsLowestOnCycle}
use Rattle.msg_reading.proofs.runnable.are_acyclic.Goals as goal

told : (g : Graph) (found : Option ℕ) (none : Bool) → is_some found ≡ not none → IfSome found (IsLowestOnCycle g)
    → IfNone found (IsAcyclic g) → IsTrue none ↔ IsAcyclic g
told g None none is lowest acyclic = grind arith
told g (Some s) true is lowest acyclic = cc
told g (Some s) false is lowest acyclic = (λ none. cc, λ free. absurd (free s lowest.on_cycle))

pub returns : goal.returns
returns c =
    let found = c.lowest_on_cycle.ensures in record {
      acyclic = told _ c.lowest_on_cycle.result c.is_none.result c.is_none.ensures found.lowest found.acyclic;
    }
