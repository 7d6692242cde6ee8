use Rattle.msg_system.proofs.FootprintsHold.{job_footprint}
use Rattle.msg_frames.proofs.TurnsCommute.{turns_commute}
use Rattle.msg_laws.proofs.turn_laws.turns_of_others_commute.Goals as goal

pub returns : goal.returns
returns g c = record { law = turns_commute job_footprint }
