use Rattle.msg_exec.proofs.batch.run_batch.Goals as goal

pub run_turns-requires-clause-stands : goal.run_turns-requires-clause-stands
run_turns-requires-clause-stands g c κs within = let (s, is) = c.requires.batch in (s, (is.stands, is.below))
