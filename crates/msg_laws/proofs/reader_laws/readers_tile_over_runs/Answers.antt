use Rattle.msg_laws.proofs.ReaderLaws.{readers_tile}
use Rattle.msg_laws.proofs.reader_laws.readers_tile_over_runs.Goals as goal

pub returns : goal.returns
returns g c = record { law = readers_tile }
