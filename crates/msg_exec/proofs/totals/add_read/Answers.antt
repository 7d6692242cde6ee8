use Rattle.std.proofs.Common.{rules}
use Rattle.msg_frames.proofs.EntriesAddUp.{with_read}
use Rattle.msg_exec.proofs.EntriesAreAdded.{kept_alike}
use Rattle.msg_exec.proofs.totals.add_read.Goals as goal

pub returns : goal.returns
returns g c = record { added = λ x is. kept_alike (with_read c.args.took.now x) (search rules) }
