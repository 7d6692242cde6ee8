use Rattle.std.proofs.Common.{◌∙◌, arith, refl}
use Rattle.std.proofs.lemmas.List.{take_all}
use Rattle.msg_world.specs.declared.part.Part.{Part}
use Rattle.msg_function.proofs.Uses.{some_port-more}
use Rattle.msg_function.proofs.ports.reading.Goals as goal

pub loop-port-preserved : goal.loop-port-preserved
loop-port-preserved c =
    let inv = c.loop-port.invariant in let here = c.with_read-access.ensures in
    let more = λ (p : Part). some_port-more c.args.ports.now c.loop-port.port-index c.port-item.result p c.loop-port-test.true c.port-item.is in
    record {
      reads = λ p. rw (here.reads p, inv.reads p, more p) refl;
      writes = λ p. here.writes p ∙ inv.writes p;
    }

pub returns-clause-reads : goal.returns-clause-reads
returns-clause-reads c = rw (take_all c.loop-port.port-index c.args.ports.now (omega arith)) at c.loop-port.invariant.reads
