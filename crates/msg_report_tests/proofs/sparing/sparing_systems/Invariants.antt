use Rattle.std.proofs.Common.{◌≡◌, length}
use Rattle.msg_exec.specs.Prelude.{EachIs}
use Rattle.msg_scenario.specs.Prelude.{IsSystemAt}
use Rattle.msg_part_tests.specs.contracts.prefaced.PrefacedSystemOf.TheImpl.{meaning-value}
use Rattle.msg_report_tests.proofs.sparing.sparing_systems.Given as goal

abbrev pub invariant-loop-spec : goal.invariant-loop-spec
invariant-loop-spec l = record {
  as_many : length l.systems.items ≡ l.spec-index;
  each : EachIs (IsSystemAt meaning-value.it l.specs) l.systems.items;
}
