use Rattle.std.proofs.Common.{take}
use Rattle.msg_exec.specs.inner.SystemsOut.{AreOut}
use Rattle.msg_exec.proofs.batch.lend_out_all.Given as goal

abbrev pub invariant-loop-system : goal.invariant-loop-system
invariant-loop-system g l = AreOut l.initial.lender (take l.system-index l.batch) l.jobs.items l.lender
