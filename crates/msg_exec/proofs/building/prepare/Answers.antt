use Rattle.std.proofs.Common.{◌∙◌, ap, length}
use Rattle.msg_order.proofs.SettledOrders.{none_more}
use Rattle.msg_exec.proofs.building.prepare.Goals as goal

pub of_frame-requires-clause-no_cycle : goal.of_frame-requires-clause-no_cycle
of_frame-requires-clause-no_cycle g c joined size =
    none_more _ c.args.rules.now c.requires.in_range c.requires.no_cycle joined
    (size ∙ ap length c.deref.ensures.value ∙ c.in_ok-accesses.ensures.as_many)

pub returns : goal.returns
returns g c = record {
  prepared = record {
    one_access_each = c.in_ok-accesses.ensures.as_many;
    accesses = c.in_ok-accesses.ensures.accesses;
    joins = c.in_ok-joins.ensures.joins;
    plan = rw (c.deref.ensures.value, c.deref-2.ensures.value) at c.in_ok-plan.ensures.plan;
    totals_each = c.in_ok-totals.ensures.as_many;
    totals = c.in_ok-totals.ensures.totals;
  };
}
