use Rattle.serde_json.specs.View.{view}
use Rattle.msg_reading.specs.declared.limits.TheConstants.{MOST_NESTED}
use Rattle.msg_reading.proofs.ConditionsAreRead.{NotsSeen}
use Rattle.msg_reading.proofs.read.condition.inside_nots.Given as goal

abbrev pub invariant-loop-nots : goal.invariant-loop-nots
invariant-loop-nots l = NotsSeen MOST_NESTED (view l.value) l.nots (view l.inside)
