use Rattle.std.proofs.Common.{◌≡◌, take}
use Rattle.msg_function.specs.Ready.{counted_on}
use Rattle.msg_function.proofs.ready.count.counted_on.Given as goal

abbrev pub invariant-loop-message : goal.invariant-loop-message
invariant-loop-message g l = l.count ≡ counted_on g.V.Value.values l.one l.initial.count (take l._message-index l.messages)
