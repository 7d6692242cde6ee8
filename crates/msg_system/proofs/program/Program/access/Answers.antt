use Rattle.std.proofs.Common.{◌≡◌, take, arith, ◌∙◌}
use Rattle.std.proofs.lemmas.List.{take_all}
use Rattle.msg_world.specs.{declared.part.Part.TheVariants.OfResource, declared.part.Part.TheVariants.OfType, declared.part.Part.TheVariants.Registry}
use Rattle.msg_world.proofs.Bits.{has_bit-clear}
use Rattle.msg_system.specs.Prelude.{program_needs}
use Rattle.msg_system.proofs.AccessesUseNeeds.{same_clash}
use Rattle.msg_system.proofs.program.Program.access.Goals as goal

pub returns-clause-needs : goal.returns-clause-needs
returns-clause-needs g c =
    let inv = c.loop-op.invariant in
    let whole : take c.loop-op.op-index c.as_slice-op-items.result.now ≡ c.args.self.now.ops =
    take_all _ c.as_slice-op-items.result.now (omega arith) ∙ c.as_slice-op-items.ensures.items in
    let read = rw whole at inv.reads in
    let written = rw whole at inv.writes in
    record {
      reads = elim [
        | OfType t ↦ grind (arith, read (OfType t))
        | OfResource r ↦ grind (arith, has_bit-clear c.loop-op.access.read_res c.loop-op.access.write_res r, read (OfResource r), written (OfResource r))
        | Registry ↦ grind (arith, read Registry)
      ];
      writes = written;
    }

pub returns-clause-clash : goal.returns-clause-clash
returns-clause-clash g c = same_clash (program_needs c.args.self.now.ops) _ (returns-clause-needs g c)
