use Rattle.std.proofs.Common.{arith, ◌≡◌, ℕ, Bool, not, List, Option, None, Some, is_some, IfNone, IfSome, IsTrue, ◌↔◌}
use Rattle.std.proofs.lemmas.{Option.get_or_from_slice_get, Option.slice_get_within}
use Rattle.msg_order.specs.declared.rule.Rule.{Rule}
use Rattle.msg_order.specs.Prelude.{IsFirstUnknown, NameSystemsBelow}
use Rattle.msg_reading.proofs.runnable.name_systems_below.Goals as goal

told : (n : ℕ) (rules : List Rule) (found : Option Rule) (none : Bool) → is_some found ≡ not none
    → IfSome found (IsFirstUnknown n rules) → IfNone found (NameSystemsBelow n rules) → IsTrue none ↔ NameSystemsBelow n rules
told n rules None none is unknown named = grind arith
told n rules (Some rule) none is unknown named =
    let at = get_or_from_slice_get rules unknown.index rule rule unknown.is in
    grind (arith, unknown.unknown, at, slice_get_within rules unknown.index rule unknown.is)

pub returns : goal.returns
returns c =
    let found = c.first_unknown.ensures in record {
      named = told _ _ c.first_unknown.result c.is_none.result c.is_none.ensures found.unknown found.named;
    }
