use Rattle.std.proofs.Common.{◌-◌, length}
use Rattle.msg_board.specs.Prelude.{jobs_of, IsIdle}
use Rattle.msg_part_tests.proofs.boards.work.Given as goal

abbrev pub invariant-loop-k : goal.invariant-loop-k
invariant-loop-k g l = IsIdle l.board l.pass

abbrev pub decreases-loop-k : goal.decreases-loop-k
decreases-loop-k g l = length (jobs_of l.board) - l.pass.tried
