use Rattle.msg_frames.proofs.FirstStatesAreSound.{first_is_sound}
use Rattle.msg_frames.proofs.laws.first_states_are_sound.Goals as goal

pub returns : goal.returns
returns g c = record { law = first_is_sound }
