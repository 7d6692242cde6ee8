use Rattle.std.proofs.Common.{◌≡◌, ◌+◌, ◌++◌, ◌∷◌, [], arith, refl, take}
use Rattle.std.proofs.lemmas.List.{map_push, take_all, take_more}
use Rattle.msg_function.proofs.Steps.{covers_read, none_ran, ran_then, still_shown}
use Rattle.msg_function.proofs.turn.read_ports.Goals as goal

pub loop-port-init : goal.loop-port-init
loop-port-init g c = none_ran _ _ _

pub do_op-requires : goal.do_op-requires
do_op-requires g c =
    let shown = c.requires.shown c.loop-port.port-index c.port-item.result c.loop-port-test.true in
    let here = still_shown _ _ _ c.loop-port.invariant.same (rw (← c.port-item.is) at shown) in
    record { covers = rw c.read_op.ensures.op (covers_read c.port-item.result _ here) }

pub loop-port-preserved : goal.loop-port-preserved
loop-port-preserved g c =
    let ports = c.args.ports.now in
    let one : take (c.loop-port.port-index + 1) ports ≡ take c.loop-port.port-index ports ++ c.port-item.result ∷ [] =
    rw (take_more ports c.loop-port.port-index c.port-item.result (omega arith), ← c.port-item.is) refl in
    rw (one, map_push) (ran_then c.loop-port.invariant (rw c.read_op.ensures.op at c.in_ok-do_op.ensures.ran))

pub returns : goal.returns
returns g c = record { ran = rw (take_all c.loop-port.port-index c.args.ports.now (omega arith)) at c.loop-port.invariant }
