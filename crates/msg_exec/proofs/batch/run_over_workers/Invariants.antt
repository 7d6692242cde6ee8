use Rattle.msg_exec.specs.Prelude.{LenderStands}
use Rattle.msg_frames.specs.Prelude.{State}
use Rattle.msg_exec.proofs.BatchComesHome.{ComingHome}
use Rattle.msg_exec.proofs.batch.run_over_workers.Given as goal

abbrev pub invariant-loop-result : goal.invariant-loop-result
invariant-loop-result g l =
    (s : State g.V.Value.values) → LenderStands g.S.SystemOf.meaning l.fn.lender s
    → ComingHome g.S.SystemOf.meaning l.fn.lender l.batch s l.result-iterator.rest.items l.lender l.initial.turns.items
    l.turns.items
