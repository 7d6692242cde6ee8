use Rattle.msg_laws.proofs.TurnsBegin.{begins_reading_all, begins_when_woken}
use Rattle.msg_laws.proofs.reader_laws.who_begins_reading_all_reads_all.Goals as goal

pub returns : goal.returns
returns g c = record { law = begins_reading_all; woken = begins_when_woken }
