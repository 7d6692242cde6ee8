use Rattle.std.proofs.Common.{◌≡◌, ap, ◌∙◌, arith, length}
use Rattle.std.proofs.lemmas.{Result.IfOk-weaker}
use Rattle.msg_board.specs.Prelude.{jobs_of}
use Rattle.msg_board.specs.inner.SoundPasses.{board_of}
use Rattle.msg_board.proofs.{TableLists.there, TableLists.get_there, Steps.closes, PassSeats.all_handed_in}
use Rattle.msg_board.proofs.board.Board.close.Goals as goal

pub results_of-requires-clause-done : goal.results_of-requires-clause-done
results_of-requires-clause-done g c =
    let closed = closes g.W.Work.lawful (board_of c.self.inside) c.args.self c.args.passes.items
    c.gather-seat.result _ _ c.close_with.ensures.values.2 c.self.invariant.some_pass c.self.view_is c.requires.all
    c.gather-seat.ensures in
    let counts = c.close_with.ensures.counts.1 in let slots = c.self.invariant.slots in
    let many = ap (λ v. length (jobs_of v)) c.self.view_is in
    λ k h. let j = there (jobs_of c.args.self) k (omega arith) in let t = closed.0 k j.0 j.1 in (t.0, t.1)

pub returns : goal.returns
returns g c =
    let closed = closes g.W.Work.lawful (board_of c.self.inside) c.args.self c.args.passes.items
    c.gather-seat.result _ _ c.close_with.ensures.values.2 c.self.invariant.some_pass c.self.view_is c.requires.all
    c.gather-seat.ensures in
    let many = c.close_with.ensures.counts.1 ∙ c.self.invariant.slots ∙ ap (λ v. length (jobs_of v)) c.self.view_is in
    record {
      lawful = IfOk-weaker c.results_of.result _ _ (λ results taken. record {
        as_many = taken.as_many ∙ many;
        each = λ k j d at gives. let t = closed.0 k j (get_there (jobs_of c.args.self) k j at) in
            let same : t.0 ≡ d = grind (arith, t.1, taken.each k d gives) in rw same at t.2;
      }) c.results_of.ensures.results;
      refused = rw many at c.results_of.ensures.refused;
      drawn_once = closed.1;
      handed_in_once = rw (all_handed_in c.args.self c.args.passes.items c.requires.ended) closed.1;
    }
