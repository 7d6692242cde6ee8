use Rattle.std.proofs.Common.{◌≡◌, ℕ, ◌<◌, Some, slice_get}
use Rattle.msg_system.specs.Prelude.{HasClash}
use Rattle.msg_exec.proofs.building.check_clashes.Given as goal

abbrev pub invariant-loop-i : goal.invariant-loop-i
invariant-loop-i g l = (r : ℕ) (x : g.row.S.Denot) → r < l.i → slice_get l.systems r ≡ Some x
    → ¬ HasClash (g.S.SystemOf.meaning x).needs
