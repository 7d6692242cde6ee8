-- What the parts of the game make of what they are given.
use Rattle.std.specs.Prelude.{ℕ, ◌==◌, ◌||◌, ◌-◌, nat_le, fold, Option, Some, None, if◌then◌else◌}
use Rattle.msg_system.specs.Prelude.{sum_onto}
use Rattle.msg_function.specs.Prelude.{Answer, Given, nothing, put}
use Rattle.tower.specs.declared.event.Event.{Event}
use Rattle.tower.specs.declared.event.Event.TheVariants.{Walked, Shot, Broke, Lives}
use Rattle.tower.specs.declared.part.Part.{Part}
use Rattle.tower.specs.declared.part.Part.TheVariants.{Creep, Tower, Gate}
use Rattle.tower.specs.declared.part.TheConstants.{SHOTS, WALKS, BREAKS, WALKED, SHOT, BROKEN, LIVES, LEFT}

-- who broke in costs the keep its lives; nothing else adds to anything
abbrev pub plus_event : Event → Event → Event
plus_event (Lives had) (Broke creep lives) = Lives (had - lives)
plus_event kept _ = kept

-- the health that an event leaves to a creep
abbrev pub hurt : ℕ → ℕ → Event → ℕ
hurt creep health (Shot target amount) = if target == creep then health - amount else health
hurt creep health _ = health

-- whom a tower of this reach aims at after an event: who walked within reach, or else as before
abbrev pub aimed : ℕ → Option ℕ → Event → Option ℕ
aimed reach target (Walked creep left) = if nat_le left reach then Some creep else target
aimed reach target _ = target

-- A creep that has health and way left goes a step, and breaks in with its last one.
abbrev pub walked : ℕ → ℕ → ℕ → Part × Answer Event
walked creep health left =
    if health == 0 || left == 0 then (Creep creep health left, nothing)
    else (
      Creep creep health (left - 1),
      if left == 1 then put BREAKS (Broke creep 1) nothing else put WALKS (Walked creep (left - 1)) nothing,
    )

-- A creep walks with the health that the shots leave to it. A tower shoots whom it aims at, and a gate
-- takes from the lives what those who broke in cost.
abbrev pub answers_of : Part → Given Event → Part × Answer Event
answers_of (Creep creep health left) given =
    walked creep (fold (λ health shot. hurt creep health shot.value) health (given.messages SHOTS)) left
answers_of (Tower reach amount) given = (
  Tower reach amount,
  elim (fold (λ target walk. aimed reach target walk.value) None (given.messages WALKED)) [
    | None ↦ nothing
    | Some target ↦ put SHOT (Shot target amount) nothing
  ],
)
answers_of Gate given = (
  Gate,
  elim (given.value LIVES) [
    | None ↦ nothing
    | Some lives ↦ put LEFT (sum_onto plus_event lives (given.messages BROKEN)) nothing
  ],
)
