use Rattle.std.proofs.Common.{Bool, List, ap, arith, length, replicate, ◌∙◌}
use Rattle.std.proofs.lemmas.List.{length-replicate, length-take-le}
use Rattle.msg_world.specs.declared.limits.TheConstants.{MAX_SYSTEMS}
use Rattle.msg_order.specs.Prelude.{settled}
use Rattle.msg_order.proofs.SetPaths.{sets_empty}
use Rattle.msg_order.proofs.{PlanViews.sets_kept, PlanViews.view_is, SettledOrders.settled_among, SettledOrders.settled_no_cycle, SettledOrders.some_test}
use Rattle.msg_order.proofs.plan.Plan.build.Goals as goal

pub settle-requires-clause-none_yet : goal.settle-requires-clause-none_yet
settle-requires-clause-none_yet _g c = sets_empty MAX_SYSTEMS _ c.empty-before.result c.requires.few c.empty-before.ensures

pub invariant_of-result : goal.invariant_of-result
invariant_of-result _g c =
    let joined : List Bool = c.args.joined.now in
    let sets = replicate MAX_SYSTEMS c.empty-before.result in
    let many = length-take-le (length c.args.accesses.now) sets (rw length-replicate c.requires.few) in
    let test = some_test c.args.accesses.now joined in
    rw c.in_ok-before.ensures.items (sets_kept (settled test.0 c.args.rules.now joined) joined c.settle.new.before c.set_of-joined.result
    (omega (arith, many)) (omega (arith, many)) (c.in_default.ensures.1 test.0 test.1)
    c.set_of-joined.ensures (settled_among c.args.rules.now joined test.0))

pub returns-clause-plan : goal.returns-clause-plan
returns-clause-plan _g c =
    let sets = replicate MAX_SYSTEMS c.empty-before.result in
    let many = length-take-le (length c.args.accesses.now) sets (rw length-replicate c.requires.few) in
    record {
      is = λ conflict tells.
          let joined : List Bool = c.args.joined.now in
          let same = c.deref.ensures.value ∙ c.in_ok-before.ensures.items in
          let paths = c.in_default.ensures.1 conflict tells in
          let free = settled_no_cycle c.args.rules.now joined conflict c.in_default.ensures.0 in
          let made = c.in_ok-batches.ensures.batches _ joined (rw same paths) c.set_of-joined.ensures
          (omega (arith, many, c.requires.one_each, ap length same)) free in
          view_is _ joined _ _ _ (omega (arith, many, c.requires.one_each, ap length c.in_ok-before.ensures.items))
          (rw c.in_ok-before.ensures.items paths) c.set_of-joined.ensures made;
    }
