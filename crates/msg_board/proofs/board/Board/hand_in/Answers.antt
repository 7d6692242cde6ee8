use Rattle.std.proofs.Common.{ap, ◌∙◌, arith, length, ◌<◌}
use lib.ListN.{get_elem?}
use Rattle.msg_board.specs.Prelude.{jobs_of}
use Rattle.msg_board.proofs.{TableLists.there, TableLists.got, Steps.hands_in, PassSeats.handed_sound, PassSeats.handed_said, PassSeats.held_within}
use Rattle.msg_board.proofs.board.Board.hand_in.Goals as goal

pub store-requires : goal.store-requires
store-requires g c = let seat = c.pass.invariant.seat in let is = c.pass.view_is in
    let jobs = jobs_of c.args.self.now in
    let has = ap (λ p. p.holding) is ∙ c.requires.holds in
    let own = ap (λ p. p.jobs) is ∙ c.requires.own.jobs in
    let inside : c.args.k < length jobs =
    grind (arith, held_within c.pass.inside c.args.k c.pass.invariant has, own) in
    let t = there jobs c.args.k inside in (
      grind arith,
      grind arith,
      hands_in g.W.Work.lawful _ _ _ _ _ c.pass.inside.seat.me.0 c.args.k t.0 c.args.done c.put_in.ensures.now
          (omega (arith, seat.weight)) (seat.held ∙ has)
          (ap (λ l. get_elem? l c.args.k) own ∙ t.1) (c.requires.lawful t.0 (got jobs c.args.k t.0 t.1)),
    )

pub invariant_of-pass : goal.invariant_of-pass
invariant_of-pass g c =
    handed_sound c.pass.inside c.put_in.new.seat c.store.new.seat c.args.k c.args.done c.pass.invariant
    c.put_in.ensures.now c.store.ensures.2.given_back

pub returns-clause-handed_in : goal.returns-clause-handed_in
returns-clause-handed_in g c =
    handed_said c.pass.inside c.put_in.new.seat c.store.new.seat c.args.k c.args.done c.pass.invariant
    c.put_in.ensures.now c.store.ensures.2.given_back
    c.args.pass.now c.pass.view_is c.requires.holds
