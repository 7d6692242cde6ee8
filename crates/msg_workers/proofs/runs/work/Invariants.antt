use Rattle.std.proofs.Common.{◌≡◌, ◌-◌, ◌≤◌, ◌^◌, length, min}
use Rattle.msg_board.specs.Prelude.{IsIdle, jobs_of}
use Rattle.msg_workers.specs.Work.{EachNewIs}
use Rattle.msg_workers.proofs.runs.work.Given as goal

abbrev pub invariant-loop-drawn : goal.invariant-loop-drawn
invariant-loop-drawn g l = IsIdle l.board l.pass
    × EachNewIs (λ job. g.G.Gate.passed l.gate l.worker (g.W.Runs.system_of job))
    (jobs_of l.board) l.initial.pass.drawn l.pass.drawn
    × (length l.initial.pass.drawn ≤ length l.pass.drawn)
    × (l.ran ≡ min (length l.pass.drawn - length l.initial.pass.drawn) (2 ^ 32 - 1))

abbrev pub decreases-loop-drawn : goal.decreases-loop-drawn
decreases-loop-drawn g l = length (jobs_of l.board) - l.pass.tried
