use Rattle.std.proofs.{Common.arith, lemmas.Bool.Decides.eqb_tells, lemmas.Bool.cases_Bool}
use Rattle.msg_buffer.proofs.Growth.{clears_leave_none}
use Rattle.msg_laws.proofs.turn_laws.drains_take_all.Goals as goal

pub returns : goal.returns
returns g c = record {
  law = λ t writer places w.
      let none = clears_leave_none (w.histories t) in grind (arith, cases_Bool, eqb_tells, none.0, none.2);
}
