use Rattle.msg_json.proofs.WalksOverLists.{ValuesLeft}
use Rattle.msg_json.proofs.numbers.batch_values.Given as goal

abbrev pub invariant-loop-item : goal.invariant-loop-item
invariant-loop-item l = ValuesLeft l.items l.item-index l.values.items
