use Rattle.std.proofs.Common.{length}
use Rattle.msg_advice.proofs.planned.Planned.+first_before.Given as goal

abbrev pub decreases-first_before : goal.decreases-first_before
decreases-first_before l = length l.batch.now
