use Rattle.std.proofs.Common.{◌≡◌, ◌-◌, ◌≤◌, length, true}
use Rattle.msg_board.specs.Prelude.{jobs_of, IsIdle}
use Rattle.msg_board.proofs.board.Board.draw.Given as goal

abbrev pub invariant-loop-pass : goal.invariant-loop-pass
invariant-loop-pass g l = record {
  idle : IsIdle l.self l.pass;
  same : l.pass.drawn ≡ l.fn.pass.drawn;
  later : l.fn.pass.tried ≤ l.pass.tried;
  finished : l.fn.pass.finished ≡ true → l.pass ≡ l.fn.pass;
}

abbrev pub decreases-loop-pass : goal.decreases-loop-pass
decreases-loop-pass g l = length (jobs_of l.self) - l.pass.tried
