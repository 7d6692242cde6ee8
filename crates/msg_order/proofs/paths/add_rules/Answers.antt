use Rattle.std.proofs.Common.{arith, get_or, take, ℕ}
use Rattle.msg_order.specs.Prelude.{Graph, Rule, rules_among}
use Rattle.msg_order.proofs.{SetPaths.adds_edge, SetPaths.path-again, SetPaths.rule_more, paths.add_rules.Goals.then-joined-earlier+then-joined-later+then-not-contains, paths.add_rules.Goals.else-joined-earlier}
use Rattle.msg_order.proofs.paths.add_rules.Goals as goal

abbrev no_rule : Rule
no_rule = record { earlier = 0; later = 0 }

pub loop-rule-preserved : goal.loop-rule-preserved
loop-rule-preserved c =
    let k : ℕ = c.loop-rule.rule-index in
    let g : Graph = rules_among c.args.joined.now (take k c.args.rules.now) in
    let r : Rule = get_or c.args.rules.now k no_rule in
    let at = c.requires.in_range k no_rule (omega arith) in
    let more = rule_more c.args.joined.now c.args.rules.now k no_rule (omega arith) in
    elim c.if-joined-earlier.branch [
      | then-joined-earlier+then-joined-later+then-not-contains w ↦ rw (w.before-is, w.starts-is) (
        λ i j.
            let adds = adds_edge g c.loop-rule.before w.add_edges.new.before r.earlier r.later w.only.result
            c.loop-rule.invariant.0 w.add_edges.ensures.edges (omega arith) w.only.ensures i j in
            grind (arith, more i j),
        w.add_edges.ensures.starts,
      )
      | else-joined-earlier w ↦ rw (w.before-is, w.starts-is) (
        λ i j. grind (arith, more i j, c.loop-rule.invariant.0 i j, path-again g r.earlier r.later),
        c.loop-rule.invariant.1,
      )
    ]
