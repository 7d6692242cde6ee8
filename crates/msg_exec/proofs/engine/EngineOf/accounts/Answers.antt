use Rattle.std.proofs.Common.{ap, is_some}
use Rattle.msg_exec.proofs.{EngineRunsFrames.stood, AccountsTell.all_add_up}
use Rattle.msg_exec.proofs.engine.EngineOf.accounts.Goals as goal

pub returns-in-Ok-clause-add_up : goal.returns-in-Ok-clause-add_up
returns-in-Ok-clause-add_up g c engine =
    let was = stood g.S.SystemOf.meaning c.args.self.now (ap is_some c.in-Some.is) engine in
    let core = simp c.in-Some.is at was.1.core in
    rw (c.in-Ok.ensures.accounts was.0 core) (all_add_up was.0 core.sound)
