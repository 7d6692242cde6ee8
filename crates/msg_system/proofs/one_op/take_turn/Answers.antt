use Rattle.msg_system.proofs.Turns.{one_op_is_a_turn}
use Rattle.msg_system.proofs.one_op.take_turn.Goals as goal

pub returns-clause-ran : goal.returns-clause-ran
returns-clause-ran g c start =
    let did = c.in_ok-answer.ensures.answered in
    rw (c.into_taken.ensures.taken, did.appended, c.in_ok-reserve_exact.ensures.items)
    (one_op_is_a_turn _ start _ _ _ _ _ _ _ did.ran c.in_ok-answer.ensures.same)
