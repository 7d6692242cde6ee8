use Rattle.std.proofs.Common.{◌≡◌, ◌<◌, ◌≤◌, ℕ, if◌then◌else◌}
use Rattle.msg_world.specs.{declared.part.Part.TheVariants.OfType, Prelude.reads}
use Rattle.msg_system.specs.Prelude.{cursor_places, start_place}
use Rattle.msg_system.proofs.cursors.Cursors.start.Given as goal

abbrev pub invariant-loop-number : goal.invariant-loop-number
invariant-loop-number l = record {
  done : (t : ℕ) → t < l.number → cursor_places l.self t
      ≡ (if reads l.access (OfType t) then start_place l.start l.counts t else cursor_places l.initial.self t);
  later : (t : ℕ) → l.number ≤ t → cursor_places l.self t ≡ cursor_places l.initial.self t;
}
