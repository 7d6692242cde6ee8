use Rattle.std.proofs.Common.{ap, ◌∙◌}
use Rattle.msg_advice.specs.Prelude.{precedes}
use Rattle.msg_advice.proofs.Orders.{edge_asked}
use Rattle.msg_advice.proofs.planned.Planned.precedes.Goals as goal

pub returns : goal.returns
returns c = record {
  precedes = edge_asked _ _ _ _ c.precedes.ensures.edge ∙ ap (λ plan. precedes plan c.args.i c.args.j) c.self.view_is;
}
