use Rattle.std.proofs.Common.{◌≡◌, length}
use Rattle.msg_exec.specs.Prelude.{EachIs, TotalsStand}
use Rattle.msg_frames.specs.Prelude.{no_totals}
use Rattle.msg_exec.proofs.building.totals_of.Given as goal

abbrev pub invariant-loop-system : goal.invariant-loop-system
invariant-loop-system l = record {
  as_many : length l.totals.items ≡ l._system;
  totals : EachIs (λ i w. TotalsStand l.types w.items (λ t. no_totals)) l.totals.items;
}
