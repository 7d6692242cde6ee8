use Rattle.msg_world.proofs.Loans.{loan_ends}
use Rattle.msg_world.proofs.laws.loans_end.Goals as goal

pub returns-clause-ends : goal.returns-clause-ends
returns-clause-ends g c = loan_ends
