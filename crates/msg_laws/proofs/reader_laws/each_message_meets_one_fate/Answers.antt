use Rattle.msg_laws.proofs.{LogsTell.logs_tell, OneFateEach.each_meets_one_fate, WritersInOrder.writers_in_order}
use Rattle.msg_laws.proofs.reader_laws.each_message_meets_one_fate.Goals as goal

pub returns : goal.returns
returns g c = record { fate = each_meets_one_fate; writers = writers_in_order; logs = logs_tell }
