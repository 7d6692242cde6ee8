use Rattle.std.proofs.Common.{ap, arith, length, map, take, ◌∙◌, ◌≡◌}
use Rattle.msg_exec.proofs.EngineRunsFrames.{takes_posts}
use Rattle.msg_reading.specs.Prelude.{state_of}
use Rattle.msg_serve.specs.Requests.{run}
use Rattle.msg_serve.proofs.AnswersInTurn.{after-append, frames_next, own_done, requests_keep}
use Rattle.msg_serve.proofs.serving.pass_frames.Goals as goal

pub pass_frame-requires-clause-serves : goal.pass_frame-requires-clause-serves
pass_frame-requires-clause-serves g c κs within =
    let s = c.args.server.now.scenario.now in
    let far = c.loop-frame.invariant in
    record {
      runnable = rw far.0 c.requires.runnable;
      now = _;
      stands = far.1;
      same = rw far.0 (requests_keep (map run (take c.loop-frame.frame-index s.frames)) (state_of s));
    }

pub pass_frame-requires-clause-posts : goal.pass_frame-requires-clause-posts
pass_frame-requires-clause-posts g c κs within =
    let s = c.args.server.now.scenario.now in
    let k = c.loop-frame.frame-index in
    let is = rw c.as_slice-frame-items.ensures.items at c.frame-item.is in
    let lt = rw c.as_slice-frame-items.ensures.items at c.loop-frame-test.true in
    (takes_posts g.X.SystemOf.meaning _ _ c.loop-frame.invariant.1 _).1
    (rw ((requests_keep (map run (take k s.frames)) (state_of s)).types, is) (c.requires.runnable.posts k _ lt))

pub loop-frame-preserved : goal.loop-frame-preserved
loop-frame-preserved g c =
    let s = c.args.server.now.scenario.now in
    let k = c.loop-frame.frame-index in
    let f = c.frame-item.result in
    let is = rw c.as_slice-frame-items.ensures.items at c.frame-item.is in
    let lt = rw c.as_slice-frame-items.ensures.items at c.loop-frame-test.true in (
      c.in_ok-pass_frame.ensures.same ∙ c.loop-frame.invariant.0,
      rw (frames_next s.frames k f lt is, after-append (map run (take k s.frames)) _ (state_of s))
          (c.in_ok-pass_frame.ensures.stands _ c.loop-frame.invariant.1),
    )

pub returns-clause-stands : goal.returns-clause-stands
returns-clause-stands g c =
    let s = c.args.server.now.scenario.now in
    let all : c.loop-frame.frame-index ≡ length s.frames = omega (arith, ap length c.as_slice-frame-items.ensures.items) in
    rw (own_done s c.loop-frame.frame-index all) at c.loop-frame.invariant.1
