use Rattle.std.proofs.Common.{◌≡◌, length}
use Rattle.msg_system.specs.Prelude.{cursor_places, of_program}
use Rattle.msg_exec.specs.Prelude.{EachIs}
use Rattle.msg_scenario.specs.Prelude.{IsSystemAt}
use Rattle.msg_scenario.proofs.building.systems_of.Given as goal

abbrev pub invariant-loop-spec : goal.invariant-loop-spec
invariant-loop-spec l = record {
  as_many : length l.systems.items ≡ l.spec-index;
  each : EachIs (IsSystemAt (λ s. of_program s.program s.writer (cursor_places s.cursors)) l.specs) l.systems.items;
}
