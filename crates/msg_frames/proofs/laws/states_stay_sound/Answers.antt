use Rattle.msg_frames.proofs.StatesStaySound.{frame_sound, run_sound}
use Rattle.msg_frames.proofs.laws.states_stay_sound.Goals as goal

pub returns : goal.returns
returns g c = record { frame = frame_sound; run = run_sound }
