use Rattle.std.proofs.Common.{◌≡◌, map}
use Rattle.msg_exec.proofs.BuilderBuilds.{numbered_below}
use Rattle.msg_exec.proofs.builder.number_all.Given as goal

abbrev pub invariant-loop-i : goal.invariant-loop-i
invariant-loop-i g l =
    map g.S.SystemOf.meaning l.systems.items ≡ numbered_below 0 l.i (map g.S.SystemOf.meaning l.initial.systems.items)
