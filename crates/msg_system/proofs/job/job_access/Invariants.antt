use Rattle.std.proofs.Common.{◌≡◌, false, take}
use Rattle.msg_world.specs.{declared.part.Part.Part, Prelude.reads, Prelude.writes}
use Rattle.msg_system.specs.Prelude.{some_condition_reads}
use Rattle.msg_system.proofs.job.job_access.Given as goal

abbrev pub invariant-loop-condition : goal.invariant-loop-condition
invariant-loop-condition g l = record {
  reads : (p : Part) → reads l.asked p ≡ some_condition_reads (take l.condition-index l.conditions) p;
  writes : (p : Part) → writes l.asked p ≡ false;
}
