use Rattle.msg_buffer.proofs.Growth.{only_grows}
use Rattle.msg_buffer.proofs.laws.histories_only_grow.Goals as goal

pub returns : goal.returns
returns g c = record { grows = only_grows }
