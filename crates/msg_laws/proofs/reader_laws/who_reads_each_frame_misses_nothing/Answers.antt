use Rattle.msg_laws.proofs.ReadersStayUpToDate.{now_up_to_date}
use Rattle.msg_laws.proofs.reader_laws.who_reads_each_frame_misses_nothing.Goals as goal

pub returns-clause-up_to_date : goal.returns-clause-up_to_date
returns-clause-up_to_date g c = now_up_to_date
