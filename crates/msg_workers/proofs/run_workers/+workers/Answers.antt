use Rattle.std.proofs.Common.{ℕ, rules, subst}
use Rattle.msg_workers.specs.inner.Workers.{HasWorked, HaveWorked}
use Rattle.msg_workers.proofs.WorkersDraw.{by_parts}
use Rattle.msg_workers.proofs.run_workers.+workers.Goals as goal

pub work_beside-returns-clause-own : goal.work_beside-returns-clause-own
work_beside-returns-clause-own g t c =
    let told : ℕ → g.row.W-Job.Denot → Type 0 =
    λ worker job. g.G.Gate.passed c.args.shared.now.gate.now worker (g.W.Runs.system_of job) in
    subst (HasWorked c.args.shared.now.board.now (told c.args.worker)) (search rules) c.join_mut-ran.ensures.1.met.1.0

pub work_beside-returns-clause-others : goal.work_beside-returns-clause-others
work_beside-returns-clause-others g t c =
    let told : ℕ → g.row.W-Job.Denot → Type 0 =
    λ worker job. g.G.Gate.passed c.args.shared.now.gate.now worker (g.W.Runs.system_of job) in
    subst (HaveWorked c.args.shared.now.board.now told c.args.beginners.next) (search rules)
    (by_parts _ told _ _ _ _ c.join_mut-ran.ensures.0.met.1 c.join_mut-ran.ensures.1.met.1.1 (search rules))
