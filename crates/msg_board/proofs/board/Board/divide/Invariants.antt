use Rattle.std.proofs.Common.{◌≡◌, ◌+◌, ◌<◌, length, []}
use Rattle.std.specs.List.{All}
use Rattle.msg_board.specs.Prelude.{IsNewPass, jobs_of, whole_view}
use Rattle.msg_board.proofs.board.Board.divide.Given as goal

abbrev pub invariant-loop-left : goal.invariant-loop-left
invariant-loop-left g l = record {
  table : l.seat.table_id ≡ l.self.table;
  view : l.seat.me ≡ (whole_view (jobs_of l.self) l.left, []);
  some_left : 0 < l.left;
  count : length l.all.items + l.left ≡ l.fn.passes;
  fresh : All (IsNewPass l.self) l.all.items;
}

abbrev pub decreases-loop-left : goal.decreases-loop-left
decreases-loop-left g l = l.left
