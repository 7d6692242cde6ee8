use Rattle.std.proofs.Common.{ap, ◌∙◌, arith}
use Rattle.msg_board.specs.Prelude.{jobs_of}
use Rattle.msg_board.specs.inner.Seats.{slots_out}
use Rattle.msg_board.proofs.{Steps.draws, PassSeats.drew_sound, PassSeats.drew_said}
use Rattle.msg_board.proofs.board.Board.try_next.Goals as goal

pub fetch_max-found-requires : goal.fetch_max-found-requires
fetch_max-found-requires g c =
    let seat = c.pass.invariant.seat in
    let idle = ap (λ p. p.holding) c.pass.view_is ∙ c.requires.idle.holding in (
      grind arith,
      grind arith,
      draws g.W.Work.lawful _ _ _ _ _ c.pass.inside.next (seat.out ∙ ap slots_out idle) (omega (arith, seat.weight))
          (seat.held ∙ idle) seat.next (grind arith),
    )

pub invariant_of-pass : goal.invariant_of-pass
invariant_of-pass g c = let told = c.fetch_max-found.ensures.2.found_zero c.if-found-eq0.true in
    drew_sound c.pass.inside c.fetch_max-found.new.seat c.take_out-job.new.seat told.0 c.pass.invariant told.2
    c.take_out-job.ensures.now (grind arith)

pub returns-then-found-eq0-clause-some : goal.returns-then-found-eq0-clause-some
returns-then-found-eq0-clause-some g c = let told = c.fetch_max-found.ensures.2.found_zero c.if-found-eq0.true in
    drew_said c.pass.inside c.fetch_max-found.new.seat c.take_out-job.new.seat told.0 c.pass.invariant told.2
    c.take_out-job.ensures.now
    c.args.pass.now (jobs_of c.args.self.now) c.take_out-job.result c.pass.view_is c.requires.idle.own.jobs
    c.requires.more told.1 c.take_out-job.ensures.was
