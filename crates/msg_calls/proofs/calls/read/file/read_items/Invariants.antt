use Rattle.msg_calls.proofs.CallsAreRead.{CallsLeft}
use Rattle.msg_calls.proofs.calls.read.file.read_items.Given as goal

abbrev pub invariant-loop-number : goal.invariant-loop-number
invariant-loop-number l = CallsLeft l.items l.number l.calls.items l.made
