use Rattle.std.proofs.Common.{set, sym, ap, ◌∙◌, arith}
use Rattle.std.proofs.lemmas.List.Edits.{map_over_more}
use Rattle.msg_system.specs.Prelude.{Asked, asked_started}
use Rattle.msg_exec.proofs.joining.start_guards.Goals as goal

pub loop-guard-preserved : goal.loop-guard-preserved
loop-guard-preserved g c =
    let xs = c.args.guards.now in
    let ys = c.loop-guard.guards in
    let i = c.loop-guard.guard-index in
    let f : Asked g.row.V.Denot → Asked g.row.V.Denot = asked_started c.args.start c.args.counts.now in
    ap (set ys i) (c.start.ensures.started ∙ ap f (sym c.guard-item.is))
    ∙ map_over_more f xs ys i c.guard-item.result (omega arith) c.loop-guard.invariant c.guard-item.is
