use Rattle.std.proofs.Common.{◌≡◌, map, take}
use Rattle.msg_scenario.proofs.building.places_of.Given as goal

abbrev pub invariant-loop-system : goal.invariant-loop-system
invariant-loop-system l = l.places.items ≡ map (λ x. x.place) (take l.system-index l.system-items)
