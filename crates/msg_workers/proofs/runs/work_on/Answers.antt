use Rattle.std.proofs.Common.{[], sym, subst, ◌∙◌, inl, arith}
use Rattle.msg_board.specs.Prelude.{jobs_of}
use Rattle.msg_workers.specs.Work.{EachNewIs}
use Rattle.msg_workers.specs.inner.Workers.{IsFirstDraw}
use Rattle.msg_workers.proofs.WorkersDraw.{and_then, one_more}
use Rattle.msg_workers.proofs.runs.work_on.Goals as goal

pub returns-clause-worked : goal.returns-clause-worked
returns-clause-worked g c =
    let J : Type 0 = g.row.W-Job.Denot in
    let told : J → Type 0 = λ job. g.G.Gate.passed c.args.gate.now c.args.worker (g.W.Runs.system_of job) in
    let jobs = jobs_of c.args.board.now in
    let first = subst (IsFirstDraw c.args.board.now c.args.pass.now) c.in-Some.is c.requires.first in
    let one = one_more told jobs [] [] c.in-Some.first.0 c.in-Some.first.1 (λ k drew. inl drew) first.there
    c.run_drawn.ensures.gate_passed in
    let its = subst (EachNewIs told jobs []) (sym (c.run_drawn.ensures.handed_in.drawn ∙ first.drawn)) one in
    let each = and_then told jobs [] c.run_drawn.new.pass.drawn c.work.new.pass.drawn its c.work.ensures.gate_passed in
    record { ended = c.work.ensures.ended; each = each }

pub returns-clause-ran : goal.returns-clause-ran
returns-clause-ran g c =
    let first = subst (IsFirstDraw c.args.board.now c.args.pass.now) c.in-Some.is c.requires.first in
    grind (arith, first.drawn, c.run_drawn.ensures.handed_in.drawn, c.work.ensures, c.saturating_add.ensures)
