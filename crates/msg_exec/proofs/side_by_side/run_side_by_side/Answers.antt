use Rattle.std.proofs.Common.{◌∙◌, slice_get, length, min, subst}
use Rattle.std.proofs.lemmas.{Option.slice_get-get_or, Result.IfOk-weaker, Slice.Zip.AllZip-left, Slice.Zip.AllZip-long, Slice.Zip.AllZip-right}
use Rattle.msg_exec.specs.inner.Batches.{IsWithWorld}
use Rattle.msg_exec.proofs.ItemsOfLists.{some_of}
use Rattle.msg_exec.specs.Prelude.{JobView}
use Rattle.msg_workers.specs.Prelude.{PassedGate}
use Rattle.msg_exec.proofs.side_by_side.run_side_by_side.Goals as goal

pub run_jobs-requires-clause-few : goal.run_jobs-requires-clause-few
run_jobs-requires-clause-few g c κs within =
    rw (AllZip-long (IsWithWorld c.args.world.now) c.args.jobs.items _ c.in_ok-jobs.ensures.each) c.requires.few

pub run_jobs-requires-clause-may : goal.run_jobs-requires-clause-may
run_jobs-requires-clause-may g c κs within k b at =
    let jobs = c.args.jobs.items in
    let each = c.in_ok-jobs.ensures.each in
    let (j, (found, is)) = some_of (slice_get jobs k)
    (rw at at (AllZip-right (IsWithWorld c.args.world.now) jobs c.in_ok-jobs.jobs.items each k)) in
    rw (← is.job, ← is.world) at (c.requires.may k j found)

pub returns : goal.returns
returns g c =
    let old = c.args.jobs.items in
    let new = c.in_ok-jobs.jobs.items in
    let each = c.in_ok-jobs.ensures.each in
    let R = IsWithWorld c.args.world.now in
    let many = AllZip-long R old new each in
    record {
      run = IfOk-weaker c.run_jobs.result _ _ (λ results lawful. record {
        as_many = lawful.as_many ∙ many;
        each = λ k j r at there.
            let (b, (found, is)) = some_of (slice_get new k) (rw at at (AllZip-left R old new each k)) in
            rw (is.job, is.world) at (lawful.each k b r found there);
      }) c.run_jobs.ensures.lawful;
      gate_passed = IfOk-weaker c.run_jobs.result _ _ (λ results passed k d lt.
          let at = slice_get-get_or old k d lt in
          let (b, (found, is)) = some_of (slice_get new k) (rw at at (AllZip-left R old new each k)) in
          subst (λ (j : JobView g.row.S.Denot g.row.V.Denot). PassedGate (g.G.Gate.passed c.args.context.now.gate.now)
          (min c.args.context.now.workers (length old)) j.number) is.job (rw many at (passed k b found)))
          c.run_jobs.ensures.gate_passed;
    }
