use Rattle.std.proofs.Common.{◌∙◌, arith, refl}
use Rattle.std.proofs.lemmas.List.{take_all}
use Rattle.msg_world.specs.declared.part.Part.{Part}
use Rattle.msg_function.proofs.Uses.{some_port-more}
use Rattle.msg_function.proofs.ports.writing.Goals as goal

pub loop-port-preserved : goal.loop-port-preserved
loop-port-preserved c =
    let inv = c.loop-port.invariant in let here = c.with_write-all.ensures in
    let more = λ (p : Part). some_port-more c.args.ports.now c.loop-port.port-index c.port-item.result p c.loop-port-test.true c.port-item.is in
    record {
      reads = λ p. here.reads p ∙ inv.reads p;
      writes = λ p. rw (here.writes p, inv.writes p, more p) refl;
    }

pub returns-clause-writes : goal.returns-clause-writes
returns-clause-writes c = rw (take_all c.loop-port.port-index c.args.ports.now (omega arith)) at c.loop-port.invariant.writes
