use Rattle.std.proofs.Common.{take}
use Rattle.msg_order.specs.inner.Users.{AreUsers}
use Rattle.msg_order.proofs.users.Users.of.Given as goal

abbrev pub invariant-loop-i : goal.invariant-loop-i
invariant-loop-i l = AreUsers l.accesses (take l.i l.joined) l.users
