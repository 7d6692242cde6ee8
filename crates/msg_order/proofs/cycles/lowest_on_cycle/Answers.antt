use Rattle.std.proofs.Common.{IfNone, List, MatchOption, Option, arith, ℕ}
use Rattle.msg_world.specs.declared.limits.TheConstants.{MAX_SYSTEMS}
use Rattle.msg_order.specs.{Prelude.Graph, Prelude.IsAcyclic, Prelude.IsLowestOnCycle, Prelude.SystemSet, inner.Paths.ArePaths}
use Rattle.msg_order.proofs.SetPaths.{all_rules, sets_empty}
use Rattle.msg_order.proofs.cycles.lowest_on_cycle.Goals as goal

pub follow_rules-requires-clause-none_yet : goal.follow_rules-requires-clause-none_yet
follow_rules-requires-clause-none_yet c = sets_empty MAX_SYSTEMS c.args.systems c.empty-before.result c.requires.few c.empty-before.ensures

if_none : (g : Graph) (before : List SystemSet) (found : Option ℕ)
    → MatchOption found (IsAcyclic g × ArePaths g before) (IsLowestOnCycle g) → IfNone found (IsAcyclic g)
if_none g before found h = grind arith

pub returns : goal.returns
returns c =
    let all = all_rules MAX_SYSTEMS c.args.systems c.args.rules.now c.requires.few c.requires.in_range in
    let found = rw all at c.follow_rules.ensures in
    record { lowest = grind arith; acyclic = if_none _ c.follow_rules.new.before _ found }
