use Rattle.std.proofs.Common.{take}
use Rattle.msg_advice.specs.inner.Tables.{AreAccesses}
use Rattle.msg_advice.proofs.planned.accesses_of.Given as goal

abbrev pub invariant-loop-system : goal.invariant-loop-system
invariant-loop-system l = AreAccesses (take l.system-index l.systems) l.accesses.items
