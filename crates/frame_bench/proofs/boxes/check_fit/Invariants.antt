use Rattle.std.proofs.Common.{[], ℤ, All, take}
use Rattle.msg_system.specs.Prelude.{FitsWorld, with_conditions}
use Rattle.frame_bench.proofs.boxes.check_fit.Given as goal

abbrev pub invariant-loop-system : goal.invariant-loop-system
invariant-loop-system g l =
    All (λ x. FitsWorld l.types l.resources (with_conditions {V = ℤ} (g.S.SystemOf.meaning x).needs []))
    (take l.system-index l.systems)
