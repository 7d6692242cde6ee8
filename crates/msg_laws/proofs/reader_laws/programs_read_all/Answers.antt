use Rattle.msg_laws.proofs.ProgramsReadAll.{programs_read_all, programs_when_woken}
use Rattle.msg_laws.proofs.reader_laws.programs_read_all.Goals as goal

pub returns : goal.returns
returns g c = record { law = programs_read_all; woken = programs_when_woken }
