use Rattle.std.proofs.{Common.arith, lemmas.Grind.common_steps}
use Rattle.msg_system.proofs.steps.sum.Goals as goal

pub returns-clause-ran : goal.returns-clause-ran
returns-clause-ran g c w places at s stand =
    let here = c.messages_of.ensures.stands s stand in
    let read = c.in_ok-took.ensures.took _ here in let place = c.in_ok-took.ensures.place _ here in
    let old = c.value_of.ensures.value s stand in let new = c.set_value.ensures.written s stand in
    grind (arith, common_steps, at, read, place, old, new, c.added_up-value.ensures.sum, c.as_slice.ensures.items)
