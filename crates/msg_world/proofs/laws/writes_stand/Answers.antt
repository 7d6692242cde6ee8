use Rattle.msg_world.proofs.Loans.{values_are_written, writes_are}
use Rattle.msg_world.proofs.laws.writes_stand.Goals as goal

pub returns : goal.returns
returns g c = record { messages = writes_are; values = values_are_written }
