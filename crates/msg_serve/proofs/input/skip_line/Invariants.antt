use Rattle.std.proofs.Common.{◌≡◌, ◌≢◌, ◌≤◌, All}
use Rattle.std.specs.Io.KnownBytes.{Consumes}
use Rattle.msg_json.specs.Prelude.{Text}
use Rattle.msg_serve.proofs.input.skip_line.Given as goal

abbrev pub invariant-loop-read : goal.invariant-loop-read
invariant-loop-read g l = ((taken : Text) × All (λ byte. byte ≢ 10) taken
    × Consumes (g.I.Source.remaining l.initial.input) (g.I.Source.remaining l.input) taken)
    × (g.I.Source.failures l.input ≡ g.I.Source.failures l.initial.input)
    × (g.I.Source.reads_left l.input ≤ g.I.Source.reads_left l.initial.input)

abbrev pub decreases-loop-read : goal.decreases-loop-read
decreases-loop-read g l = g.I.Source.reads_left l.input
