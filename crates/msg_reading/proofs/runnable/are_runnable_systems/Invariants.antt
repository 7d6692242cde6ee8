use Rattle.std.proofs.Common.{ℕ, ◌<◌, get_or}
use Rattle.msg_reading.specs.Prelude.{IsRunnableSystem, SystemSpec}
use Rattle.msg_reading.proofs.runnable.are_runnable_systems.Given as goal

abbrev pub invariant-loop-system : goal.invariant-loop-system
invariant-loop-system l = (k : ℕ) (d : SystemSpec) → k < l.system-index
    → IsRunnableSystem l.scenario (get_or l.system-items k d)
