use Rattle.std.proofs.Common.{arith}
use Rattle.msg_exec.proofs.engine.EngineOf.count_frame.Goals as goal

pub returns-clause-counted : goal.returns-clause-counted
returns-clause-counted g c = omega (arith, c.saturating_add-self.ensures)
