use Rattle.std.proofs.Common.{◌≡◌, map, take}
use Rattle.msg_system.specs.Prelude.{new_asked}
use Rattle.msg_exec.proofs.building.guards_of.Given as goal

abbrev pub invariant-loop-condition : goal.invariant-loop-condition
invariant-loop-condition g l = l.guards.items ≡ map new_asked (take l.condition-index l.conditions)
