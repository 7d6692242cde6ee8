use Rattle.msg_system.proofs.FootprintsHold.{job_footprint}
use Rattle.msg_frames.proofs.LawfulOrdersAgree.{orders_agree}
use Rattle.msg_laws.proofs.turn_laws.lawful_orders_agree.Goals as goal

pub returns : goal.returns
returns g c = record { law = orders_agree job_footprint }
