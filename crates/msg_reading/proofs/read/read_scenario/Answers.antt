use Rattle.msg_json.proofs.FaultsOfFiles.{refused_for}
use Rattle.msg_reading.specs.Prelude.{HasFault}
use Rattle.msg_reading.proofs.read.read_scenario.Goals as goal

pub returns-in-Err-clause-refused : goal.returns-in-Err-clause-refused
returns-in-Err-clause-refused c = rw c.refusal.ensures.refusal (refused_for HasFault _ _ c.in-Err.ensures.fault)
