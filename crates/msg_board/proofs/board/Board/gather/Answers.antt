use Rattle.std.proofs.Common.{ap, ◌∙◌, arith, Some}
use Rattle.msg_board.specs.Prelude.{HasEnded}
use Rattle.msg_board.specs.inner.Seats.{slots_out}
use Rattle.std.proofs.lemmas.List.Elements.{All-pop}
use Rattle.msg_board.proofs.{Steps.unites, PassSeats.gathers_first, PassSeats.gathers}
use Rattle.msg_board.proofs.board.Board.gather.Goals as goal

pub loop-pass-init : goal.loop-pass-init
loop-pass-init g c =
    gathers_first c.args.self.now _ _ c.in-Some.first _ c.requires.ended c.in-Some.ensures.items
    c.into_seat-seat.ensures.seat c.into_seat-seat.ensures.all_tried

pub join_seat-requires : goal.join_seat-requires
join_seat-requires g c = let inv = c.loop-pass.invariant in let b = c.args.self.now in
    let of = c.into_seat-other.ensures.seat in
    let parts = All-pop (HasEnded b) _ _ (Some c.in-Some-pop.pass) c.in-Some-pop.ensures.items inv.ended in (
      grind (arith, inv.table),
      grind (arith, parts),
      of.out ∙ ap slots_out parts.1.holding,
      grind arith,
      unites g.W.Work.lawful _ _ _ _ _ _ inv.live (of.held ∙ parts.1.holding),
    )

pub loop-pass-preserved : goal.loop-pass-preserved
loop-pass-preserved g c =
    gathers c.args.self.now _ _ _ c.in-Some-pop.pass _ _ _ c.loop-pass.invariant c.in-Some-pop.ensures.items
    c.into_seat-other.ensures.seat c.join_seat.ensures.0 c.join_seat.ensures.2
