use Rattle.msg_world.proofs.Loans.{loan_stays}
use Rattle.msg_world.proofs.laws.loans_stand_side_by_side.Goals as goal

pub returns-clause-loan : goal.returns-clause-loan
returns-clause-loan g c = loan_stays _
