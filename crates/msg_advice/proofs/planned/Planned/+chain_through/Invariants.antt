use Rattle.std.proofs.Common.{length}
use Rattle.msg_advice.proofs.planned.Planned.+chain_through.Given as goal

abbrev pub decreases-chain_through : goal.decreases-chain_through
decreases-chain_through l = length l.batches.now
