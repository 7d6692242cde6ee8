use Rattle.std.proofs.Common.{◌≡◌, map, take}
use Rattle.msg_advice.proofs.planned.joins_of.Given as goal

abbrev pub invariant-loop-system : goal.invariant-loop-system
invariant-loop-system l = l.joins.items ≡ map (λ x. x.place.join) (take l.system-index l.systems)
