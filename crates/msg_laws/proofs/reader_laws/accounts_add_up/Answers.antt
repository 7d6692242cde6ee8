use Rattle.msg_laws.proofs.ReaderLaws.{backlogs_add_up}
use Rattle.msg_laws.proofs.reader_laws.accounts_add_up.Goals as goal

pub returns-clause-backlogs : goal.returns-clause-backlogs
returns-clause-backlogs g c = backlogs_add_up
