use Rattle.std.proofs.Common.{◌≡◌, ◌++◌, take, ◌∷◌, [], ◌∙◌, Err, length, refl, arith, rules}
use Rattle.std.proofs.lemmas.{Grind.common_steps, List.drop-append-le, List.length_push, List.take_all, List.take_more, List.Elements.All-push}
use Rattle.msg_world.specs.declared.run_fault.RunFault.TheVariants.{NoMemory, Spoiled}
use Rattle.msg_workers.specs.Prelude.{EachPassedGate}
use Rattle.msg_frames.specs.Prelude.{turn_order_in}
use Rattle.msg_exec.proofs.EngineRunsFrames.{is_sound}
use Rattle.msg_exec.proofs.SinceThen.{each_itself, frames_and_one, frames_none, since_call}
use Rattle.msg_exec.proofs.engine.EngineOf.run_frames.Given as given
use Rattle.msg_exec.proofs.engine.EngineOf.run_frames.Goals as goal

pub run_frame-requires-clause-posts : goal.run_frame-requires-clause-posts
run_frame-requires-clause-posts g c κs within =
    c.loop-frame.invariant.fits _
    (rw (← c.frame-item.is) at (c.requires.posts c.loop-frame.frame-index c.frame-item.result c.loop-frame-test.true))

pub unreachable-requires : goal.unreachable-requires
unreachable-requires g c =
    let kept = c.push.ensures.succeeds in
    let room = c.reserve.ensures.ok in
    grind (arith, kept, room, c.is_err.ensures.value, c.if-is_err.false, c.in_default.is)

pub loop-frame-init : goal.loop-frame-init
loop-frame-init g c = record {
  so_far = λ s stands. frames_none g.S.SystemOf.meaning c.args.self.now s _ stands;
  longer = omega arith;
  gate_passed = grind (arith, common_steps);
  engine = c.requires.engine;
  counted = grind (arith, common_steps);
  alive = grind (arith, common_steps);
  fits = λ f fit. fit;
}

pub loop-frame-preserved : goal.loop-frame-preserved
loop-frame-preserved g c =
    let m = g.S.SystemOf.meaning in
    let inv = c.loop-frame.invariant in
    let frames = c.args.frames.now in
    let k = c.loop-frame.frame-index in
    let frame = c.frame-item.result in
    let log = c.in_ok-log.log in
    let before = c.loop-frame.out.items in
    let pushed : c.push.new.self.items ≡ before ++ log ∷ [] = search rules in
    record {
      so_far = λ s stands.
          rw (take_more frames k frame c.loop-frame-test.true, ← c.frame-item.is, pushed)
          (frames_and_one m _ _ s (take k frames) frame _ before log (is_sound m c.args.self.now s stands)
          (inv.so_far s stands) c.in_ok-log.ensures.ran);
      longer = rw (pushed, length_push) (omega (arith, inv.longer));
      gate_passed = rw (pushed, drop-append-le (length c.args.out.now.items) before (log ∷ []) inv.longer)
          (All-push (λ l. EachPassedGate (g.G.Gate.passed c.args.gate.now) c.args.workers (turn_order_in l)) _ log
          inv.gate_passed c.in_ok-log.ensures.gate_passed);
      engine = c.in_ok-log.ensures.engine;
      counted = omega (arith, inv.counted, c.in_ok-log.ensures.counted);
      alive = c.in_ok-log.ensures.alive;
      fits = λ f fit. c.in_ok-log.ensures.fits f (inv.fits f fit);
    }

pub returns-clause-ran : goal.returns-clause-ran
returns-clause-ran g c s stands =
    rw (take_all c.loop-frame.frame-index c.args.frames.now (omega arith)) at (c.loop-frame.invariant.so_far s stands)

pub returns-clause-since : goal.returns-clause-since
returns-clause-since g c s before =
    since_call g.S.SystemOf.meaning _ _ c.args.frames.now _ _ (λ u stands.
    let ran = returns-clause-ran g c u stands in (_, ran.appended, each_itself _, ran.stands)) s before

pub returns-then-is_err-clause-gate_passed : goal.returns-then-is_err-clause-gate_passed
returns-then-is_err-clause-gate_passed g c = rw c.reserve.ensures.items c.loop-frame.invariant.gate_passed

pub returns-then-is_err-clause-no_memory : goal.returns-then-is_err-clause-no_memory
returns-then-is_err-clause-no_memory g c same s stands =
    let far = c.loop-frame.invariant.so_far s stands in
    record {
      ran = c.loop-frame.frame-index;
      few = omega (arith, c.loop-frame-test.true);
      appended = rw c.reserve.ensures.items far.appended;
      counted = rw c.spoil.ensures.spoiled far.stands.frames;
      spoiled = rw c.spoil.ensures.spoiled refl;
    }

pub returns-in_err-log-clause-gate_passed : goal.returns-in_err-log-clause-gate_passed
returns-in_err-log-clause-gate_passed g c = rw c.reserve.ensures.items c.loop-frame.invariant.gate_passed

pub returns-in_err-log-clause-no_memory : goal.returns-in_err-log-clause-no_memory
returns-in_err-log-clause-no_memory g c same s stands =
    let far = c.loop-frame.invariant.so_far s stands in
    let failed : c.run_frame.result ≡ Err NoMemory = grind (arith, same, c.from_residual.ensures, c.in_err-log.was) in
    record {
      ran = c.loop-frame.frame-index;
      few = omega (arith, c.loop-frame-test.true);
      appended = rw c.reserve.ensures.items far.appended;
      counted = c.run_frame.ensures.not_counted failed ∙ far.stands.frames;
      spoiled = c.run_frame.ensures.no_memory failed;
    }

pub returns-in_err-log-clause-no_bad_order : goal.returns-in_err-log-clause-no_bad_order
returns-in_err-log-clause-no_bad_order g c same =
    c.run_frame.ensures.no_bad_order (grind (arith, same, c.from_residual.ensures, c.in_err-log.was))

not_spoiled : (g : given.Over) (c : goal.After-from_residual g) → ¬ (c.from_residual.result ≡ Err Spoiled)
not_spoiled g c same =
    let failed : c.run_frame.result ≡ Err Spoiled = grind (arith, same, c.from_residual.ensures, c.in_err-log.was) in
    c.loop-frame.invariant.alive (c.run_frame.ensures.spoiled.0 failed)

pub returns-in_err-log-clause-spoiled : goal.returns-in_err-log-clause-spoiled
returns-in_err-log-clause-spoiled g c =
    (λ same. absurd (not_spoiled g c same), λ spoiled. grind (arith, spoiled, c.is_none.ensures, c.if-is_none.false))

pub returns-in_err-log-clause-unchanged : goal.returns-in_err-log-clause-unchanged
returns-in_err-log-clause-unchanged g c same = absurd (not_spoiled g c same)

pub returns-in_err-log-clause-nothing_appended : goal.returns-in_err-log-clause-nothing_appended
returns-in_err-log-clause-nothing_appended g c same = absurd (not_spoiled g c same)
