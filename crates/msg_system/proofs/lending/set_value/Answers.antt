use Rattle.msg_world.proofs.Loans.{values_are_written}
use Rattle.msg_system.proofs.lending.set_value.Goals as goal

pub returns : goal.returns
returns g c =
    let written = values_are_written {values = g.V.Value.values} c.args.lent.now c.args.r c.args.value c.requires.lent in
    record { written = written.1; same = written.0 }
