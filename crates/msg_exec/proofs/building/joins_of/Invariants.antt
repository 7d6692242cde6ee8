use Rattle.std.proofs.Common.{◌≡◌, map, take}
use Rattle.msg_exec.proofs.building.joins_of.Given as goal

abbrev pub invariant-loop-place : goal.invariant-loop-place
invariant-loop-place g l = l.joins.items ≡ map (λ place. place.join) (take l.place-index l.places)
