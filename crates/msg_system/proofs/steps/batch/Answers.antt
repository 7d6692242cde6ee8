use Rattle.std.proofs.{Common.arith, Common.rules, lemmas.Grind.common_steps, lemmas.List.length-map}
use Rattle.msg_world.specs.Prelude.{by}
use Rattle.msg_system.proofs.steps.batch.Goals as goal

pub returns-clause-ran : goal.returns-clause-ran
returns-clause-ran g c s stand =
    let written = c.in_ok-numbers.ensures.written (by c.args.writer) (λ x m made. search rules) s stand in
    grind (arith, common_steps, length-map, written, c.in_ok-numbers.ensures.numbers s stand)
