use Rattle.msg_system.proofs.relay.RelaySystemOf.run.Goals as goal

pub returns-clause-ran : goal.returns-clause-ran
returns-clause-ran g c = c.take_turn.ensures.ran c.args.self.now.start
