use Rattle.std.proofs.Common.{◌≡◌, take}
use Rattle.msg_scenario.proofs.reports.last_read.are_same.Given as goal

abbrev pub invariant-loop-k : goal.invariant-loop-k
invariant-loop-k l = take l.k l.a ≡ take l.k l.b
