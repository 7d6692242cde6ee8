use Rattle.std.proofs.Common.{arith, append_assoc}
use Rattle.std.proofs.lemmas.{Grind.common_steps, List.take_all}
use Rattle.msg_calls.proofs.ItemsInLines.{more_pairs-push, spaced_items}
use Rattle.msg_calls.proofs.calls.text.add_items.Goals as goal

pub loop-item-preserved : goal.loop-item-preserved
loop-item-preserved c = grind (arith, common_steps, more_pairs-push, append_assoc, c.in_ok-add_item.ensures)

pub returns : goal.returns
returns c = record { appends = grind (arith, common_steps, take_all, spaced_items) }
