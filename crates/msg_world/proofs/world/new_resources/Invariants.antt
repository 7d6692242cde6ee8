use Rattle.std.proofs.Common.{◌≡◌, Some, map, take}
use Rattle.msg_world.proofs.world.new_resources.Given as goal

abbrev pub invariant-loop-value : goal.invariant-loop-value
invariant-loop-value g l = l.resources.items ≡ map (λ z. Some z) (take l.value-index l.values)
