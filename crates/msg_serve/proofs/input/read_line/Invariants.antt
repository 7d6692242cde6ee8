use Rattle.std.proofs.Common.{◌≡◌, ◌≢◌, ◌≤◌, All, length}
use Rattle.std.specs.Io.KnownBytes.{Consumes}
use Rattle.msg_serve.specs.declared.limits.TheConstants.{MAX_LINE}
use Rattle.msg_serve.proofs.input.read_line.Given as goal

abbrev pub invariant-loop-input : goal.invariant-loop-input
invariant-loop-input g l = (length l.line.items ≤ MAX_LINE)
    × Consumes (g.I.Source.remaining l.initial.input) (g.I.Source.remaining l.input) l.line.items
    × All (λ byte. byte ≢ 10) l.line.items
    × (g.I.Source.failures l.input ≡ g.I.Source.failures l.initial.input)
    × (g.I.Source.reads_left l.input ≤ g.I.Source.reads_left l.initial.input)

abbrev pub decreases-loop-input : goal.decreases-loop-input
decreases-loop-input g l = g.I.Source.reads_left l.input
