use Rattle.msg_calls.proofs.ItemsInLines.{HasAdded}
use Rattle.msg_calls.proofs.calls.text.add_unread.Given as goal

abbrev pub invariant-loop : goal.invariant-loop
invariant-loop l = HasAdded l.initial.unread l.unread l.initial.text.items l.text.items l.counter
