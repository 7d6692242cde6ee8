-- What is known as a board is closed. Private functions' contracts cite it, and no public one does.
use Rattle.std.specs.Prelude.{◌≡◌, ℕ, ◌+◌, ◌<◌, All, List, length, slice_get, Some, None}
use mathlib.Core.Option.{some}
use lib.ListN.{get_elem?}
use Rattle.atomic_table.specs.declared.shared.Seat.{Seat}
use Rattle.msg_board.specs.{declared.law.Slot.Slot, declared.law.Slot.TheVariants.Done, declared.law.View.View, Board.BoardView, Board.HasEnded, Board.jobs_of, Counts.times, Pass.PassState, Pass.drawn_by}

module _ {J D : Type 0} where
  -- the seat has the views of all these passes but the rest, each of which has ended
  pub record IsGathered (b : BoardView J) (all rest : List (PassState J))
      (seat : Seat (Slot J D) (View J)) : Type 0 where
    pub table : seat.table_id ≡ b.table
    pub count : seat.me.0.weight + length rest ≡ length all
    pub live : 0 < seat.me.0.weight
    pub next : seat.me.0.next ≡ length (jobs_of b)
    pub held : seat.me.0.held ≡ None
    pub drawn : (k : ℕ)
        → times k seat.me.0.drawn + times k (drawn_by rest) ≡ times k (drawn_by all)
    pub ended : All (HasEnded b) rest

module _ {J D : Type 0} where
  -- each of the n slots has a result
  abbrev pub HasDone : ℕ → List (Slot J D) → Type 0
  HasDone n slots = (k : ℕ) → k < n → (d : D) × (get_elem? slots k ≡ some (Done d))

  -- the results are those of the n slots, in order
  pub record AreResultsIn (n : ℕ) (slots : List (Slot J D)) (results : List D) : Type 0 where
    pub as_many : length results ≡ n
    pub each : (k : ℕ) (d : D) → slice_get results k ≡ Some d → get_elem? slots k ≡ some (Done d)
