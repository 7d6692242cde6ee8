use Rattle.std.proofs.Common.{arith}
use Rattle.std.proofs.lemmas.List.{get_or_read}
use Rattle.msg_order.specs.inner.SystemSet.{no_set}
use Rattle.msg_order.proofs.PlanViews.{seen_edges}
use Rattle.msg_order.proofs.plan.Plan.precedes.Goals as goal

pub returns-then-earlier-len : goal.returns-then-earlier-len
returns-then-earlier-len _g c =
    let edges = seen_edges _ _ _ _ c.self.view_is c.self.invariant c.args.earlier c.args.later in
    let among = c.self.invariant.among c.args.earlier c.args.later in
    let within = c.self.invariant.within in
    grind (arith, edges, among, within)

pub returns : goal.returns
returns _g c =
    let edges = seen_edges _ _ _ _ c.self.view_is c.self.invariant c.args.earlier c.args.later in
    let at = get_or_read c.self.inside.before.items c.args.later _ (omega arith) c.index.ensures no_set in
    grind (arith, edges, at)
