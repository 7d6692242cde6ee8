use Rattle.std.proofs.Common.{subst, sym, ◌∙◌, arith}
use Rattle.std.proofs.lemmas.List.{length-append}
use Rattle.msg_board.specs.Prelude.{jobs_of}
use Rattle.msg_workers.specs.Work.{EachNewIs}
use Rattle.msg_workers.proofs.WorkersDraw.{one_more}
use Rattle.msg_workers.proofs.runs.work.Goals as goal

pub loop-drawn-preserved : goal.loop-drawn-preserved
loop-drawn-preserved g c =
    let J : Type 0 = g.row.W-Job.Denot in
    let told : J → Type 0 = λ job. g.G.Gate.passed c.args.gate.now c.args.worker (g.W.Runs.system_of job) in
    let jobs = jobs_of c.args.board.now in
    let ran = c.run_drawn.ensures in
    let drew = c.in-Some.ensures.some in
    let more = one_more told jobs c.args.pass.now.drawn c.loop-drawn.pass.drawn c.in-Some.drawn.0 c.in-Some.drawn.1
    c.loop-drawn.invariant.1 drew.job_there ran.gate_passed in (
      record { own = ran.own; holding = ran.handed_in.holding },
      subst (EachNewIs told jobs c.args.pass.now.drawn) (sym (ran.handed_in.drawn ∙ drew.drawn)) more,
      grind (arith, c.loop-drawn.invariant, ran.handed_in.drawn, drew.drawn, length-append),
      grind (arith, c.loop-drawn.invariant, ran.handed_in.drawn, drew.drawn, length-append, c.saturating_add-ran.ensures),
    )

pub returns-clause-gate_passed : goal.returns-clause-gate_passed
returns-clause-gate_passed g c =
    let J : Type 0 = g.row.W-Job.Denot in
    let told : J → Type 0 = λ job. g.G.Gate.passed c.args.gate.now c.args.worker (g.W.Runs.system_of job) in
    subst (EachNewIs told (jobs_of c.args.board.now) c.args.pass.now.drawn) (sym (c.in_default.ensures.none.drawn))
    c.loop-drawn.invariant.1
