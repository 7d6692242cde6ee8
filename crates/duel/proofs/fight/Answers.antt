use Rattle.std.proofs.Common.{sym, ◌∙◌}
use Rattle.duel.proofs.fight.Goals as goal

-- what the audience was, and what it was told, settle what it gives
pub returns-in_err-run_loop-clause-alike : goal.returns-in_err-run_loop-clause-alike
returns-in_err-run_loop-clause-alike g c =
    c.loops_agree.ensures (λ old log one other new then a b. (a.1 ∙ sym (b.1), a.0 ∙ sym (b.0)))

pub returns-clause-alike : goal.returns-clause-alike
returns-clause-alike g c =
    c.loops_agree.ensures (λ old log one other new then a b. (a.1 ∙ sym (b.1), a.0 ∙ sym (b.0)))
