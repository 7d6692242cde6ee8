use Rattle.std.proofs.Common.{◌∙◌, arith}
use Rattle.std.proofs.lemmas.List.{take_all}
use Rattle.msg_workers.proofs.WorkersDraw.{more_passed}
use Rattle.msg_exec.proofs.{BatchAfterBatch.as_many_systems, BatchAfterBatch.one_batch_more, BatchAfterBatch.turned_more, BatchAfterBatch.of_one_batch}
use Rattle.msg_exec.proofs.batch.run_batches.Goals as goal

pub run_batch-requires-clause-batch : goal.run_batch-requires-clause-batch
run_batch-requires-clause-batch g c κs within =
    let far = c.loop-batch.invariant.turned _ c.requires.stands.1.0 in
    let k = c.loop-batch.batch-index in
    let batch = c.batch-item.result in
    let (once, apart) = of_one_batch _ c.args.batches.now k batch c.loop-batch-test.true c.batch-item.is
    c.requires.once c.requires.apart in
    rw c.deref.ensures.value (
      _,
      record {
        stands = far.state;
        below = rw (as_many_systems, c.batch-item.is) (c.requires.stands.1.1 k batch c.loop-batch-test.true);
        once = once;
        apart = rw c.loop-batch.invariant.accesses apart;
      },
    )

pub run_batch-requires-clause-few : goal.run_batch-requires-clause-few
run_batch-requires-clause-few g c κs within = rw c.loop-batch.invariant.accesses c.requires.few

pub loop-batch-preserved : goal.loop-batch-preserved
loop-batch-preserved g c =
    let ran = c.in_ok-run_batch.ensures in
    let read = c.deref.ensures.value in
    let more = one_batch_more c.args.batches.now c.loop-batch.batch-index c.batch-item.result c.loop-batch-test.true
    c.batch-item.is in
    record {
      accesses = ran.accesses ∙ c.loop-batch.invariant.accesses;
      gate_passed = rw more (more_passed (g.G.Gate.passed c.args.context.now.gate.now) c.args.context.now.workers _ _
          c.loop-batch.invariant.gate_passed (rw read at ran.gate_passed));
      turned = λ s stands.
          rw more (turned_more g.S.SystemOf.meaning _ (c.loop-batch.invariant.turned s stands) (rw read at ran.turned));
    }

pub returns-clause-turned : goal.returns-clause-turned
returns-clause-turned g c s stands = grind (arith, take_all, c.loop-batch.invariant.turned s stands)

pub returns-clause-gate_passed : goal.returns-clause-gate_passed
returns-clause-gate_passed g c =
    rw (take_all c.loop-batch.batch-index c.args.batches.now (omega arith)) at c.loop-batch.invariant.gate_passed
