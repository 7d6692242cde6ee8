use Rattle.std.proofs.Common.{◌≡◌, take}
use Rattle.msg_reading.specs.Prelude.{NoneClash}
use Rattle.msg_reading.proofs.read.clash.check_clashes.Given as goal

abbrev pub invariant-loop-system : goal.invariant-loop-system
invariant-loop-system l = record {
  number : l.s ≡ l.system-index;
  none : NoneClash (take l.system-index l.systems);
}
