use Rattle.msg_system.proofs.FootprintsHold.{job_footprint}
use Rattle.msg_frames.proofs.LawfulOrdersAgree.{frames_agree}
use Rattle.msg_frames.proofs.laws.frames_agree_in_lawful_orders.Goals as goal

pub returns : goal.returns
returns g c = record { law = frames_agree job_footprint }
