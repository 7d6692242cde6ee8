use Rattle.msg_system.proofs.FootprintsHold.{job_footprint}
use Rattle.msg_frames.proofs.BatchesSideBySide.{side_by_side}
use Rattle.msg_frames.proofs.laws.batches_run_side_by_side.Goals as goal

pub returns : goal.returns
returns g c = record { law = side_by_side job_footprint }
