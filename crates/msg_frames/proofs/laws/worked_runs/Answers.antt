use Rattle.msg_frames.proofs.WorkedRuns.{asks_both, joins_before}
use Rattle.msg_frames.proofs.laws.worked_runs.Goals as goal

pub returns : goal.returns
returns c = record { asks = asks_both; joins = joins_before }
