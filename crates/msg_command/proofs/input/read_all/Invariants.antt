use Rattle.std.proofs.Common.{◌≤◌, vec_len}
use Rattle.std.specs.Io.KnownBytes.{Consumes}
use Rattle.msg_command.specs.Prelude.{MAX_BYTES}
use Rattle.msg_command.proofs.input.read_all.Given as goal

abbrev pub invariant-loop : goal.invariant-loop
invariant-loop g l =
    Consumes (g.R.Read.remaining l.initial.input) (g.R.Read.remaining l.input) l.all.items
    × (vec_len l.all ≤ MAX_BYTES)
