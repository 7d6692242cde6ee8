use Rattle.std.proofs.Common.{refl}
use Rattle.std.proofs.lemmas.Slice.Zip.{all_zipped_more}
use Rattle.msg_exec.specs.inner.Batches.{IsWithWorld}
use Rattle.msg_exec.proofs.side_by_side.with_world.Goals as goal

pub loop-job-preserved : goal.loop-job-preserved
loop-job-preserved g c =
    rw c.in_ok-push.ensures.items
    (all_zipped_more (IsWithWorld c.args.world.now) c.loop-job.yielded c.loop-job.all.items c.in-Some.job _
    c.loop-job.invariant (record { job = refl; world = refl }))
