use Rattle.std.proofs.Common.{arith}
use Rattle.msg_world.specs.{declared.part.Part.TheVariants.OfResource, declared.part.Part.TheVariants.OfType, declared.part.Part.TheVariants.Registry}
use Rattle.msg_world.proofs.Bits.{has_bit-clear}
use Rattle.msg_function.proofs.ports.access_of.Goals as goal

pub returns : goal.returns
returns c =
    let read = c.reading.ensures in let all = c.writing-access.ensures in
    record {
      needs = record {
        reads = elim [
          | OfType t ↦ grind (arith, all.reads (OfType t), read.reads (OfType t))
          | OfResource r ↦ grind (
            arith,
            has_bit-clear c.writing-access.result.read_res c.writing-access.result.write_res r,
            all.reads (OfResource r),
            all.writes (OfResource r),
            read.reads (OfResource r),
          )
          | Registry ↦ grind (arith, read.reads Registry)
        ];
        writes = all.writes;
      };
    }
