use Rattle.std.proofs.Common.{ap, arith, length, map, take, ◌∙◌, ◌≡◌}
use Rattle.std.proofs.lemmas.Result.{err_from_is_err_and}
use Rattle.msg_exec.proofs.EngineRunsFrames.{is_sound, takes_posts}
use Rattle.msg_frames.proofs.ReaderOverRun.{runs_are_complete}
use Rattle.msg_reading.specs.Prelude.{state_of}
use Rattle.msg_serve.specs.Requests.{run}
use Rattle.msg_serve.proofs.AnswersInTurn.{answered_more, frames_next, no_failed_put, requests_keep, trace_done, trace_ends, trace_unread}
use Rattle.msg_serve.proofs.tracing.trace.Goals as goal

pub trace_frame-requires-clause-serves : goal.trace_frame-requires-clause-serves
trace_frame-requires-clause-serves g c κs within =
    let s = c.args.server.now.scenario.now in
    let far = c.loop-frame.invariant in
    record {
      runnable = rw far.0 c.requires.runnable;
      now = _;
      stands = far.1.stands;
      same = rw far.0 (requests_keep (map run (take c.loop-frame.frame-index s.frames)) (state_of s));
    }

pub tell_readers-requires : goal.tell_readers-requires
tell_readers-requires g c =
    let s = c.args.server.now.scenario.now in
    let far = c.loop-frame.invariant in
    record {
      serves = record {
        runnable = rw far.0 c.requires.runnable;
        now = _;
        stands = far.1.stands;
        same = rw far.0 (requests_keep (map run (take c.loop-frame.frame-index s.frames)) (state_of s));
      };
    }

pub trace_frame-requires-clause-posts : goal.trace_frame-requires-clause-posts
trace_frame-requires-clause-posts g c κs within =
    let s = c.args.server.now.scenario.now in
    let k = c.loop-frame.frame-index in
    let is = rw c.as_slice-frame-items.ensures.items at c.frame-item.is in
    let lt = rw c.as_slice-frame-items.ensures.items at c.loop-frame-test.true in
    (takes_posts g.X.SystemOf.meaning _ _ c.loop-frame.invariant.1.stands _).1
    (rw ((requests_keep (map run (take k s.frames)) (state_of s)).types, is) (c.requires.runnable.posts k _ lt))

pub returns-in_err-trace_frame-clause-ends : goal.returns-in_err-trace_frame-clause-ends
returns-in_err-trace_frame-clause-ends g c fault came =
    let s = c.args.server.now.scenario.now in
    let is = rw c.as_slice-frame-items.ensures.items at c.frame-item.is in
    let lt = rw c.as_slice-frame-items.ensures.items at c.loop-frame-test.true in
    let passed = err_from_is_err_and c.from_residual.result c.from_residual.ensures.1 in
    let why = c.in_err-trace_frame.field-0.0 in
    let same : fault ≡ why = grind (arith, came, passed.1, passed.2) in
    let put = rw c.loop-frame.invariant.0 at (c.in_err-trace_frame.ensures.put _ c.loop-frame.invariant.1.stands) in
    rw same (trace_ends g.S.Sink.contents g.S.Sink.failures s g.X.SystemOf.meaning _ _ _ c.loop-frame.frame-index
    c.loop-frame.invariant.1 c.frame-item.result why _ lt is put)

pub loop-frame-preserved : goal.loop-frame-preserved
loop-frame-preserved g c =
    let s = c.args.server.now.scenario.now in
    let k = c.loop-frame.frame-index in
    let f = c.frame-item.result in
    let is = rw c.as_slice-frame-items.ensures.items at c.frame-item.is in
    let lt = rw c.as_slice-frame-items.ensures.items at c.loop-frame-test.true in
    let far = c.loop-frame.invariant.1 in
    let put = rw c.loop-frame.invariant.0 at (c.in_ok-trace_frame.ensures.put _ far.stands) in (
      c.in_ok-trace_frame.ensures.same ∙ c.loop-frame.invariant.0,
      rw (frames_next s.frames k f lt is)
          (answered_more g.S.Sink.contents g.S.Sink.failures g.X.SystemOf.meaning s (state_of s) (map run (take k s.frames))
          _ _ _ far (run f) _ _ put.ok put.quiet (c.in_ok-trace_frame.ensures.stands _ far.stands)),
    )

pub returns-in_err-tell_readers-clause-ends : goal.returns-in_err-tell_readers-clause-ends
returns-in_err-tell_readers-clause-ends g c fault came =
    let s = c.args.server.now.scenario.now in
    let all : c.loop-frame.frame-index ≡ length s.frames = omega (arith, ap length c.as_slice-frame-items.ensures.items) in
    let r = c.from_residual-in_err-tell_readers in
    let passed = err_from_is_err_and r.result r.ensures.1 in
    let why = c.in_err-tell_readers.field-0.0 in
    let same : fault ≡ why = grind (arith, came, passed.1, passed.2) in
    rw same (trace_unread g.S.Sink.contents g.S.Sink.failures s g.X.SystemOf.meaning _ _ _ c.loop-frame.frame-index
    c.loop-frame.invariant.1 all why (no_failed_put why c.in_err-tell_readers.ensures.memory))

pub returns-clause-ok : goal.returns-clause-ok
returns-clause-ok g c =
    let s = c.args.server.now.scenario.now in
    let far = c.loop-frame.invariant.1 in
    let all : c.loop-frame.frame-index ≡ length s.frames = omega (arith, ap length c.as_slice-frame-items.ensures.items) in
    let text = rw c.loop-frame.invariant.0 at ((c.in_ok-tell_readers.ensures.answers _ far.stands).text) in
    (trace_done g.S.Sink.contents g.S.Sink.failures s g.X.SystemOf.meaning _ _ _ c.loop-frame.frame-index far all
    c.put_answer.result _ (λ frames. runs_are_complete frames (state_of s) (is_sound g.X.SystemOf.meaning _ _ c.requires.engine))
    (rw text at c.put_answer.ensures.put)).0

pub returns-clause-ends : goal.returns-clause-ends
returns-clause-ends g c =
    let s = c.args.server.now.scenario.now in
    let far = c.loop-frame.invariant.1 in
    let all : c.loop-frame.frame-index ≡ length s.frames = omega (arith, ap length c.as_slice-frame-items.ensures.items) in
    let text = rw c.loop-frame.invariant.0 at ((c.in_ok-tell_readers.ensures.answers _ far.stands).text) in
    (trace_done g.S.Sink.contents g.S.Sink.failures s g.X.SystemOf.meaning _ _ _ c.loop-frame.frame-index far all
    c.put_answer.result _ (λ frames. runs_are_complete frames (state_of s) (is_sound g.X.SystemOf.meaning _ _ c.requires.engine))
    (rw text at c.put_answer.ensures.put)).1
