use Rattle.std.proofs.Common.{◌≡◌, length, min, arith}
use Rattle.std.proofs.Math.Seq.{take-append_seam}
use Rattle.std.proofs.lemmas.{Option.slice_get_within, Result.IfOk-weaker}
use Rattle.msg_workers.proofs.WorkersDraw.{all_ended, each_passed}
use Rattle.msg_workers.proofs.run_workers.run_jobs.Goals as goal

pub close-requires-clause-ended : goal.close-requires-clause-ended
close-requires-clause-ended g c κs within =
    let as_many : c.in_ok-board.passes.len ≡ length c.work_from-own.new.passes = omega (arith, c.work_from-own.auto.passes) in
    rw (as_many, take-append_seam) (all_ended _ _ 0 _ c.work_from-own.ensures.worked)

pub returns-clause-gate_passed : goal.returns-clause-gate_passed
returns-clause-gate_passed g c = IfOk-weaker c.close.result _ _
    (λ results lawful k job at.
    let as_many : c.in_ok-board.passes.len ≡ length c.work_from-own.new.passes = omega (arith, c.work_from-own.auto.passes) in
    let some = slice_get_within c.args.jobs.items k job at in
    let most = c.number.ensures in
    let passes_are = c.in_ok-board.ensures.as_many in
    each_passed (g.G.Gate.passed c.args.gate.now) g.W.Runs.system_of c.in_ok-board.board c.work_from-own.new.passes
    (min c.args.workers (length c.args.jobs.items))
    (omega (arith, some, as_many, most, passes_are, c.len-number.ensures, c.max-most.ensures, c.min.ensures))
    (rw (as_many, take-append_seam) at c.close.ensures.drawn_once)
    c.work_from-own.ensures.worked k job (rw c.in_ok-board.ensures.jobs at))
    c.close.ensures.lawful
