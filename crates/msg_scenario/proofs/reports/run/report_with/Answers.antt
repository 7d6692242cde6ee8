use Rattle.std.proofs.Common.{[], ap, arith, inr, length, refl, ◌∙◌}
use Rattle.std.proofs.lemmas.Result.{err_from_is_err_and}
use Rattle.msg_reading.specs.Prelude.{state_of}
use Rattle.std.proofs.KnownBytes.{Appends-nil}
use Rattle.msg_frames.proofs.ReaderOverRun.{runs_are_complete}
use Rattle.msg_exec.proofs.EngineRunsFrames.{has_counted, is_alive, is_sound}
use Rattle.msg_scenario.proofs.{TextsByPieces.zip-nil, Reporting.ended, Reporting.no_memory, Reporting.readers_done, Reporting.stopped_before_all}
use Rattle.msg_scenario.proofs.reports.run.report_with.Goals as goal

pub loop-init : goal.loop-init
loop-init g c = (
  record {
    begun = c.requires.engine;
    logs = [];
    state = state_of c.args.told.scenario.now;
    as_many = refl;
    is_run = (refl, refl);
    frames = refl;
    types = refl;
    printed = rw (zip-nil c.args.told.scenario.now.frames) (Appends-nil _);
    quiet = refl;
    stands = c.requires.engine;
    counted = has_counted g.X.SystemOf.meaning _ _ c.requires.engine;
    alive = is_alive g.X.SystemOf.meaning _ _ c.requires.engine;
  },
  record { scenario = refl; readers = refl; lines = refl; reported = refl },
)

pub returns-in_err-lines : goal.returns-in_err-lines
returns-in_err-lines g c =
    let r = c.from_residual in
    let passed = err_from_is_err_and r.result r.ensures.1 in
    record {
      leaves = rw passed.1
          (stopped_before_all _ _ _ _ _ _ passed.0 passed.2 _ c.requires.engine
          (has_counted g.X.SystemOf.meaning _ _ c.requires.engine));
    }

pub returns-in_err-report_frame : goal.returns-in_err-report_frame
returns-in_err-report_frame g c =
    let r = c.from_residual-in_err-report_frame in
    let passed = err_from_is_err_and r.result r.ensures.1 in
    let same = c.loop.invariant.1 in
    record {
      leaves = rw (passed.1 ∙ ap ended passed.2)
          ((rw (same.scenario, same.readers, same.reported) at c.in_err-report_frame.ensures.leaves) _ _ c.loop.invariant.0);
    }

-- no memory for the accounts
pub returns-in-Err : goal.returns-in-Err
returns-in-Err g c = record {
  leaves = no_memory _ _ _ _ _ _ _ _ _ _ c.loop.invariant.0 _ _ _ c.in-Err.is
      (λ e. c.accounts.ensures.spoiled.0 e) c.accounts.ensures.no_bad_order
      (λ e. (refl, inr (c.loop.invariant.0.stands, omega (arith, ap length c.as_slice-items.ensures.items))));
}

-- or for those of the writers
pub returns-in-Err-told_writers : goal.returns-in-Err-told_writers
returns-in-Err-told_writers g c = record {
  leaves = no_memory _ _ _ _ _ _ _ _ _ _ c.loop.invariant.0 _ _ _ c.in-Err-told_writers.is
      c.told_writers.ensures.spoiled c.told_writers.ensures.no_bad_order
      (λ e. (refl, inr (c.loop.invariant.0.stands, omega (arith, ap length c.as_slice-items.ensures.items))));
}

pub returns : goal.returns
returns g c =
    let same = c.loop.invariant.1 in
    let far = c.loop.invariant.0 in
    record {
      leaves = readers_done _ _ _ _ _ _ _ _ _ _ far _ (omega (arith, ap length c.as_slice-items.ensures.items)) _
          (λ frames. runs_are_complete frames (state_of c.args.told.scenario.now) (is_sound g.X.SystemOf.meaning _ _ c.requires.engine))
          (rw (
            same.scenario,
            same.readers,
            c.as_slice.ensures.value,
            c.as_slice-2.ensures.value,
            c.in-Ok.ensures.accounts far.state far.stands,
            c.in-Ok-told_writers.ensures.writers far.state far.stands,
          )
          at c.put_accounts.ensures.put far.state far.stands) c.put_accounts.ensures.faults;
    }
