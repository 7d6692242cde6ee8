use Rattle.std.proofs.Common.{length, min, sym, ◌∙◌, arith, ◌≡◌}
use Rattle.std.proofs.lemmas.Slice.Zip.{AllZip-long}
use Rattle.msg_workers.specs.Prelude.{PassedGate}
use Rattle.msg_exec.specs.inner.SystemsOut.{IsOut}
use Rattle.msg_exec.proofs.{BatchAfterBatch.no_more_than, BatchComesHome.all_came, BatchComesHome.begin_home, BatchComesHome.next_comes, BatchComesHome.next_may_come, BatchComesHome.of_batch, BatchGoesOut.all_may_run, BatchGoesOut.is_batch, BatchComesHome.all_back}
use Rattle.msg_exec.proofs.batch.run_over_workers.Goals as goal

pub run_side_by_side-requires-clause-few : goal.run_side_by_side-requires-clause-few
run_side_by_side-requires-clause-few g c κs within =
    let many =
    AllZip-long (IsOut c.args.lender.now) c.args.batch.now c.in_ok-jobs.jobs.items c.in_ok-jobs.ensures.out.each in
    let (s, is) = c.requires.batch in
    omega (arith, many, no_more_than c.args.batch.now s.systems is.below is.once, is.stands.accesses, c.requires.few)

pub run_side_by_side-requires-clause-may : goal.run_side_by_side-requires-clause-may
run_side_by_side-requires-clause-may g c κs within =
    all_may_run g.S.SystemOf.meaning c.requires.batch.1 c.in_ok-jobs.ensures.out

pub loop-result-init : goal.loop-result-init
loop-result-init g c s stands =
    let m = g.S.SystemOf.meaning in
    let of = is_batch m c.requires.batch.1 stands in
    rw c.into_iter-result-iterator.ensures.into_iter_gives.0 (begin_home m of c.in_ok-jobs.ensures.out
    (all_back m of c.in_ok-jobs.ensures.out c.in_ok-results.ensures.run))

pub take_back-requires : goal.take_back-requires
take_back-requires g c =
    let next = rw c.in_ok-done.was at c.in-Some.ensures.steps.0 in
    let may = next_may_come g.S.SystemOf.meaning next (c.loop-result.invariant _ c.requires.batch.1.stands) in
    record { systems = may.systems; totals = may.totals; apart = may.apart; few = may.few }

pub loop-result-preserved : goal.loop-result-preserved
loop-result-preserved g c s stands =
    rw c.in_ok-push.ensures.items
    (next_comes g.S.SystemOf.meaning (rw c.in_ok-done.was at c.in-Some.ensures.steps.0) (c.loop-result.invariant s stands)
    c.take_back.ensures.home c.take_back.ensures.turn)

pub returns : goal.returns
returns g c =
    let m = g.S.SystemOf.meaning in
    let far = c.loop-result.invariant in
    let rest = c.loop-result.result-iterator.rest in
    let none : length rest.items ≡ 0 = sym rest.ok.0 ∙ c.in-None.ensures.steps.0 in
    let passed = g.G.Gate.passed c.args.context.now.gate.now in
    let batch = c.args.batch.now in
    let jobs = c.in_ok-jobs.jobs.items in
    let out = c.in_ok-jobs.ensures.out.each in
    record {
      turned = λ s stands. all_came m none (far s stands);
      accesses = (far _ c.requires.batch.1.stands).half.accesses;
      gate_passed = rw (AllZip-long (IsOut c.args.lender.now) batch jobs out) at
          (of_batch (PassedGate passed (min c.args.context.now.workers (length jobs))) c.args.lender.now batch jobs out
          c.in_ok-results.ensures.gate_passed);
    }
