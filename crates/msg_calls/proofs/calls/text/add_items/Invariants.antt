use Rattle.std.proofs.Common.{◌≡◌, ◌++◌, take}
use Rattle.msg_calls.specs.Prelude.{more_pairs}
use Rattle.msg_calls.proofs.calls.text.add_items.Given as goal

abbrev pub invariant-loop-item : goal.invariant-loop-item
invariant-loop-item l = l.text.items ≡ l.initial.text.items ++ more_pairs (take l.item-index l.items)
