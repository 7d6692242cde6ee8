use Rattle.std.proofs.Common.{arith}
use Rattle.msg_board.proofs.Steps.{divides}
use Rattle.msg_board.proofs.board.Board.divide.Goals as goal

pub split_seat-one-requires : goal.split_seat-one-requires
split_seat-one-requires g c = let inv = c.loop-left.invariant in
    (grind (arith, inv), grind arith, divides g.W.Work.lawful _ _ _ _ (grind (arith, inv)))
