use Rattle.std.proofs.Common.{◌≡◌, ◌+◌, ◌++◌, ◌∷◌, [], arith, refl, take}
use Rattle.std.proofs.lemmas.List.{take_all, take_more, Folds.list_any-append}
use Rattle.msg_system.proofs.job.job_access.Goals as goal

pub loop-condition-preserved : goal.loop-condition-preserved
loop-condition-preserved g c =
    let cs = c.args.conditions.now in let i = c.loop-condition.condition-index in
    let inv = c.loop-condition.invariant in let here = c.access.ensures.needs in
    let union = c.union-asked.ensures in
    let one : take (i + 1) cs ≡ take i cs ++ c.condition-item.result ∷ [] =
    rw (take_more cs i c.condition-item.result (omega arith), ← c.condition-item.is) refl in
    record {
      reads = λ p. rw one (grind (arith, list_any-append, inv.reads p, inv.writes p, here.reads p, here.writes p, union.reads p, union.writes p));
      writes = λ p. grind (arith, inv.writes p, here.writes p, union.writes p);
    }

pub returns-clause-union : goal.returns-clause-union
returns-clause-union g c =
    let inv = c.loop-condition.invariant in let union = c.union.ensures in
    let asked = rw (take_all c.loop-condition.condition-index c.args.conditions.now (omega arith)) at inv.reads in
    record {
      reads = λ p. grind (arith, asked p, inv.writes p, union.reads p, union.writes p);
      writes = λ p. grind (arith, inv.writes p, union.writes p);
    }
