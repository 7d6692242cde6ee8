use Rattle.std.proofs.Common.{ap, inl, ◌∙◌}
use Rattle.std.proofs.lemmas.Result.{err_from_is_err_and}
use Rattle.msg_exec.proofs.EngineRunsFrames.{takes_posts}
use Rattle.msg_scenario.proofs.Reporting.{ended, frame_put, frame_stopped, in_text_by, no_memory}
use Rattle.msg_scenario.proofs.reports.run.report_frame.Goals as goal

pub run_frame-requires-clause-posts : goal.run_frame-requires-clause-posts
run_frame-requires-clause-posts g c κs within =
    let far = c.requires.so_far.2 in
    let is = rw c.as_slice.ensures.items at c.index-as_slice-reporter.is in
    (takes_posts g.X.SystemOf.meaning _ far.state far.stands _).1
    (rw (far.types, is) (c.requires.posts c.args.reporter.now.reported _ c.requires.next))

pub returns-in-Err-clause-leaves : goal.returns-in-Err-clause-leaves
returns-in-Err-clause-leaves g c old first far =
    no_memory _ _ _ _ _ _ _ _ _ _ far _ _ _ c.in-Err.is (λ e. c.run_frame.ensures.spoiled.0 e)
    c.run_frame.ensures.no_bad_order
    (λ e. (c.run_frame.ensures.not_counted e, inl (c.run_frame.ensures.no_memory e, c.requires.next)))

pub returns-in_err-put_frame-clause-leaves : goal.returns-in_err-put_frame-clause-leaves
returns-in_err-put_frame-clause-leaves g c =
    let r = c.from_residual in
    let passed = err_from_is_err_and r.result r.ensures.1 in
    let put = c.in_err-put_frame.ensures in
    rw (passed.1 ∙ ap ended passed.2)
    (λ old first far. frame_stopped _ _ _ _ _ _ _ _ _ _ far c.run_frame.new.self _ c.in-Ok.log
    c.requires.next (rw c.as_slice.ensures.items at c.index-as_slice-reporter.is) c.in-Ok.ensures.ran
    c.in-Ok.ensures.counted _ (in_text_by _ put.faults) _ put.put)

pub returns-clause-ok : goal.returns-clause-ok
returns-clause-ok g c old first far =
    frame_put _ _ _ c.args.reporter.now.readers _ _ _ _ _ _ far c.run_frame.new.self _ c.in-Ok.log
    c.requires.next (rw c.as_slice.ensures.items at c.index-as_slice-reporter.is) c.in-Ok.ensures.ran
    c.in-Ok.ensures.counted _ c.recycle.new.self c.recycle.ensures.meaning c.recycle.ensures.counted
    (λ spoiled. c.in-Ok.ensures.alive (c.recycle.ensures.spoiled.0 spoiled)) c.in_ok-put_frame.ensures.put.ok
    c.in_ok-put_frame.ensures.put.quiet
