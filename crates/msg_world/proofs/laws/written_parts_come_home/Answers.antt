use Rattle.msg_world.proofs.Loans.{home_merges}
use Rattle.msg_world.proofs.laws.written_parts_come_home.Goals as goal

pub returns-clause-meaning : goal.returns-clause-meaning
returns-clause-meaning g c = home_merges
