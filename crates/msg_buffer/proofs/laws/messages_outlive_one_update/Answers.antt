use Rattle.msg_buffer.proofs.Growth.{outlive_one_update}
use Rattle.msg_buffer.proofs.laws.messages_outlive_one_update.Goals as goal

pub returns : goal.returns
returns g c = record { outlive = outlive_one_update }
