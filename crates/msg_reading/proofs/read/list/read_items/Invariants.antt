use Rattle.msg_reading.proofs.ListsInTurn.{ElementsLeft}
use Rattle.msg_reading.proofs.read.list.read_items.Given as goal

abbrev pub invariant-loop-n : goal.invariant-loop-n
invariant-loop-n g l = ElementsLeft g.T.Element.reads l.initial.names l.items l.n l.read.items l.names
