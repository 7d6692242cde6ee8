use Rattle.std.proofs.Common.{◌≡◌, false, take}
use Rattle.msg_world.specs.{declared.part.Part.Part, Prelude.reads, Prelude.writes}
use Rattle.msg_function.specs.Functions.{some_port_is}
use Rattle.msg_function.proofs.ports.reading.Given as goal

abbrev pub invariant-loop-port : goal.invariant-loop-port
invariant-loop-port l = record {
  reads : (p : Part) → reads l.access p ≡ some_port_is (take l.port-index l.ports) p;
  writes : (p : Part) → writes l.access p ≡ false;
}
