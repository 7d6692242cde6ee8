use Rattle.std.proofs.Common.{◌≡◌, map, take, nat_le}
use Rattle.msg_order.proofs.plan.joined_by.Given as goal

abbrev pub invariant-loop-join : goal.invariant-loop-join
invariant-loop-join l = l.joined.items ≡ map (λ j. nat_le j l.frame) (take l.join-index l.joins)
