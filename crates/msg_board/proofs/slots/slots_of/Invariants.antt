use Rattle.std.proofs.Common.{◌≡◌, map}
use Rattle.msg_board.specs.Prelude.{Job}
use Rattle.msg_board.proofs.slots.slots_of.Given as goal

abbrev pub invariant-loop-job : goal.invariant-loop-job
invariant-loop-job g l = l.slots.items ≡ map Job l.yielded
