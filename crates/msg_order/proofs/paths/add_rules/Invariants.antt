use Rattle.std.proofs.Common.{take}
use Rattle.msg_order.specs.{Prelude.rules_among, inner.Paths.ArePaths, inner.Paths.AreStarts}
use Rattle.msg_order.proofs.paths.add_rules.Given as goal

abbrev pub invariant-loop-rule : goal.invariant-loop-rule
invariant-loop-rule l = ArePaths (rules_among l.joined (take l.rule-index l.rules)) l.before
    × AreStarts l.before l.starts
