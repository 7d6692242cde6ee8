use Rattle.msg_exec.proofs.engine.EngineOf.recycle.Goals as goal

pub returns-clause-engine : goal.returns-clause-engine
returns-clause-engine g c is = rw c.keep.ensures.same is
