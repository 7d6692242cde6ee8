use Rattle.msg_frames.proofs.SystemsStay.{frames_keep}
use Rattle.msg_laws.proofs.turn_laws.frames_keep_the_systems.Goals as goal

pub returns : goal.returns
returns g c = record { law = frames_keep }
