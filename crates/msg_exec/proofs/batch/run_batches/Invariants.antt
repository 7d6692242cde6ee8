use Rattle.std.proofs.Common.{◌≡◌, take, map, []}
use Rattle.std.specs.List.{concat}
use Rattle.msg_exec.specs.Prelude.{LenderStands}
use Rattle.msg_workers.specs.Prelude.{EachPassedGate}
use Rattle.msg_frames.specs.Prelude.{State}
use Rattle.msg_exec.specs.inner.Batches.{HasTurned}
use Rattle.msg_exec.proofs.batch.run_batches.Given as goal

abbrev pub invariant-loop-batch : goal.invariant-loop-batch
invariant-loop-batch g l = record {
  turned : (s : State g.V.Value.values) → LenderStands g.S.SystemOf.meaning l.initial.lender s
      → HasTurned g.S.SystemOf.meaning (concat (map (λ batch. batch.items) (take l.batch-index l.batches))) s l.lender
      [] l.turns.items;
  gate_passed : EachPassedGate (g.G.Gate.passed l.context.gate.now) l.context.workers
      (concat (map (λ batch. batch.items) (take l.batch-index l.batches)));
  accesses : l.lender.accesses.items ≡ l.initial.lender.accesses.items;
}
