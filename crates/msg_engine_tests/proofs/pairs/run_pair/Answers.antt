use Rattle.msg_engine_tests.proofs.pairs.run_pair.Goals as goal

pub returns-in-Ok-came-clause-sound : goal.returns-in-Ok-came-clause-sound
returns-in-Ok-came-clause-sound g c = c.engines_stand.ensures.sound _ _ c.in-Ok.ensures.since.stands
