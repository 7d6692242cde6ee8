-- What each board and each pass keeps by itself: the invariant of its model. No public contract
-- cites it.
use Rattle.std.specs.Prelude.{◌≡◌, ℕ, ◌+◌, ◌<◌, ◌≤◌, List, [], ◌∷◌, ◌++◌, length, All, Some, true}
use Rattle.msg_board.specs.{declared.pass.Pass.TheInside.Inside, Board.BoardView, Pass.PassState, inner.Seats.IsSeatOf}
use Rattle.msg_board.specs.declared.board.Board.TheInside as board

module _ {J D : Type 0} where
  -- the state that callers see
  abbrev pub pass_state : Inside J D → PassState J
  pass_state p = record {
    table = p.seat.table_id;
    jobs = p.seat.me.0.jobs;
    tried = p.next;
    drawn = p.seat.me.0.drawn;
    holding = p.held;
    finished = p.finished;
  }

module _ {J : Type 0} where
  -- what a pass has tried, what it drew and what it holds agree
  pub record DrewInOrder (p : PassState J) : Type 0 where
    -- it has tried no more numbers than there are jobs, and all of them once it is finished
    pub within : p.tried ≤ length p.jobs
    pub all_tried : p.finished ≡ true → p.tried ≡ length p.jobs
    -- it drew only what it tried
    pub below : All (λ n. n < p.tried) p.drawn
    -- what it holds is what it drew last, above all that it drew earlier
    pub last : (k : ℕ) → p.holding ≡ Some k
        → (earlier : List ℕ) × (p.drawn ≡ earlier ++ k ∷ []) × All (λ n. n < k) earlier

module _ {J D : Type 0} where
  -- its seat is that of its state, and its state is in order
  pub record IsSoundPass (p : Inside J D) : Type 0 where
    pub seat : IsSeatOf (pass_state p) p.seat
    pub order : DrewInOrder (pass_state p)

module _ {W A J D : Type 0} where
  -- the board that callers see
  abbrev pub board_of : board.Inside W A J D → BoardView J
  board_of b = record {
    table = b.table.shared.table_id;
    jobs = b.table.shared.key.jobs.value.items;
    passes = b.table.shared.key.passes;
  }

  -- its table has a slot for each job, and a word more; and some pass was made
  pub record IsBoard (b : board.Inside W A J D) : Type 0 where
    pub words : b.table.shared.table_id.words ≡ b.table.shared.table_id.slots + 1
    pub slots : b.table.shared.table_id.slots ≡ length b.table.shared.key.jobs.value.items
    pub some_pass : 0 < b.table.shared.key.passes
