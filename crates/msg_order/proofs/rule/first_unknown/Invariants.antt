use Rattle.std.proofs.Common.{ℕ, ◌<◌, get_or}
use Rattle.msg_order.specs.Prelude.{NamesBelow, Rule}
use Rattle.msg_order.proofs.rule.first_unknown.Given as goal

abbrev pub invariant-loop-rule : goal.invariant-loop-rule
invariant-loop-rule l = (k : ℕ) (d : Rule) → k < l.rule-index → NamesBelow l.systems (get_or l.rules k d)
