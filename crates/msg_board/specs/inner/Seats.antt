-- When a seat of the table is that of a pass. Private functions' contracts cite it, and no public
-- one does.
use Rattle.std.specs.Prelude.{◌≡◌, ℕ, List, [], ◌∷◌, Option, Some, None}
use Rattle.atomic_table.specs.declared.shared.Seat.{Seat}
use Rattle.msg_board.specs.{declared.law.Slot.Slot, declared.law.Slot.TheVariants.Empty, declared.law.View.View, Pass.PassState}

module _ {J D : Type 0} where
  -- the slots that are out with a pass which holds this number: one, from which it took the job
  abbrev pub slots_out : Option ℕ → List (ℕ × Slot J D)
  slots_out None = []
  slots_out (Some k) = (k, Empty) ∷ []

  -- the seat is that of a pass in this state, and its view counts as one pass
  pub record IsSeatOf (p : PassState J) (seat : Seat (Slot J D) (View J)) : Type 0 where
    pub table : seat.table_id ≡ p.table
    pub jobs : seat.me.0.jobs ≡ p.jobs
    pub weight : seat.me.0.weight ≡ 1
    pub next : seat.me.0.next ≡ p.tried
    pub drawn : seat.me.0.drawn ≡ p.drawn
    pub held : seat.me.0.held ≡ p.holding
    pub out : seat.me.1 ≡ slots_out p.holding
