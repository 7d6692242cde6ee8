use Rattle.std.proofs.Common.{◌≡◌, take, All}
use Rattle.msg_exec.specs.Prelude.{LenderStands}
use Rattle.msg_frames.specs.Prelude.{State}
use Rattle.msg_exec.specs.inner.Batches.{HasTurned}
use Rattle.msg_exec.proofs.batch.run_turns.Given as goal

abbrev pub invariant-loop-system : goal.invariant-loop-system
invariant-loop-system g l = record {
  turned : (s : State g.V.Value.values) → LenderStands g.S.SystemOf.meaning l.initial.lender s
      → HasTurned g.S.SystemOf.meaning (take l.system-index l.systems) s l.lender l.initial.turns.items l.turns.items;
  accesses : l.lender.accesses.items ≡ l.initial.lender.accesses.items;
  passed : All (g.G.Gate.passed l.gate 0) (take l.system-index l.systems);
}
