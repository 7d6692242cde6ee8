use Rattle.std.proofs.Common.{map, take}
use Rattle.msg_function.specs.{Functions.read_op, inner.Runs.OpsRan}
use Rattle.msg_function.proofs.turn.read_ports.Given as goal

abbrev pub invariant-loop-port : goal.invariant-loop-port
invariant-loop-port g l = OpsRan g.V.Value.values (map read_op (take l.port-index l.ports)) l.initial.me l.me
    l.initial.lent l.lent l.initial.out.items l.out.items
