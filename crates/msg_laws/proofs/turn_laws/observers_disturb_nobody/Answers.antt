use Rattle.msg_laws.proofs.Observers.{observers_disturb_nobody, observers_may_be_added}
use Rattle.msg_laws.proofs.turn_laws.observers_disturb_nobody.Goals as goal

pub returns : goal.returns
returns g c = record { added = observers_may_be_added; law = observers_disturb_nobody }
