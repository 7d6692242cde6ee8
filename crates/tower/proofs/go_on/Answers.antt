use Rattle.std.proofs.Common.{append_assoc}
use Rattle.std.proofs.lemmas.List.{take_more}
use Rattle.tower.proofs.go_on.Goals as goal

pub loop-frame-preserved : goal.loop-frame-preserved
loop-frame-preserved g c =
    let inv = c.loop-frame.invariant in
    let frames = c.args.frames.now in
    let k = c.loop-frame.frame-index in
    let more = take_more frames k c.frame-item.result c.loop-frame-test.true in
    record {
      engine = c.in_ok-run_frame.ensures.engine;
      fit = λ j d lt. c.in_ok-run_frame.ensures.fits _ (inv.fit j d lt);
      ran = λ s stands.
          rw (c.in_ok-push.ensures.items, more, ← c.frame-item.is)
          (c.frames_run_one_by_one.ensures.more _ _ s _ _ _ _ _ (c.engines_stand.ensures.sound _ s stands) (inv.ran s stands)
          c.in_ok-run_frame.ensures.ran);
      since = λ s before has.
          rw (c.in_ok-push.ensures.items, more, ← c.frame-item.is, ← append_assoc)
          (c.in_ok-run_frame.ensures.since s _ _ (inv.since s before has));
    }
