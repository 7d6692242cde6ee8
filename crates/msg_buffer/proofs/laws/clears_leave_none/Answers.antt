use Rattle.msg_buffer.proofs.Growth.{clears_leave_none}
use Rattle.msg_buffer.proofs.laws.clears_leave_none.Goals as goal

pub returns : goal.returns
returns g c = record { none = clears_leave_none }
