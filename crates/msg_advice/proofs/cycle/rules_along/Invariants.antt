use Rattle.msg_advice.specs.Unfit.{Lead}
use Rattle.msg_advice.proofs.cycle.rules_along.Given as goal

abbrev pub invariant-loop-level : goal.invariant-loop-level
invariant-loop-level l = Lead l.rules l.way.items l.system l.at
