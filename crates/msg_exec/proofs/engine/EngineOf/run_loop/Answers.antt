use Rattle.std.proofs.Common.{◌≡◌, List, Option, Some, [], ◌∷◌, ◌++◌, Err, None, append-nil, append_assoc, arith, inl, inr, refl, rules}
use Rattle.std.proofs.lemmas.List.{length_push}
use Rattle.msg_frames.specs.{declared.frame.Frame.Frame, declared.log.Log.Log}
use Rattle.msg_world.specs.declared.run_fault.RunFault.TheVariants.{NoMemory}
use Rattle.msg_exec.specs.Prelude.{PostsFit}
use Rattle.msg_exec.specs.Hosts.{HostHasGiven, last_log}
use Rattle.msg_exec.proofs.{EngineRunsFrames.is_sound, SinceThen.frames_and_one, SinceThen.frames_none}
use Rattle.msg_exec.proofs.engine.EngineOf.run_loop.Goals as goal

module _ {V : Type 0} where
  last_of_more : (log : Option (Log V)) (logs : List (Log V)) (next : Log V) → last_log log (logs ++ next ∷ []) ≡ Some next
  last_of_more log [] next = refl
  last_of_more log (l ∷ logs) next = last_of_more (Some l) logs next

-- a host gives one frame more
module _ {V H : Type 0} (gives : H → Option (Log V) → Option (Frame V) → H → Type 0) where
  given_more : (log : Option (Log V)) (host : H) (frames : List (Frame V)) (logs : List (Log V)) (now : H) (f : Frame V)
      (next : Log V) (then : H) → HostHasGiven gives log host frames logs now → gives now (last_log log logs) (Some f) then
      → HostHasGiven gives log host (frames ++ f ∷ []) (logs ++ next ∷ []) then
  given_more log host [] [] now f next then given gave = (then, rw given at gave, refl)
  given_more log host [] (l ∷ logs) now f next then given gave = absurd given
  given_more log host (x ∷ frames) [] now f next then given gave = absurd given
  given_more log host (x ∷ frames) (l ∷ logs) now f next then given gave =
      (given.0, given.1, given_more (Some l) given.0 frames logs now f next then given.2 gave)

pub loop-init : goal.loop-init
loop-init g c = record {
  so_far = (
    record {
      frames = [];
      logs = [];
      few = search rules;
      given = refl;
      ran = λ s stands. frames_none g.S.SystemOf.meaning c.args.self.now s [] stands;
      since = λ s before earlier far. rw (append-nil, append-nil) far;
    },
    (refl, refl),
  );
  engine = c.requires.engine;
  alive = search rules;
}

pub returns-in_default-clause-ran : goal.returns-in_default-clause-ran
returns-in_default-clause-ran g c =
    let far = c.loop.invariant.so_far in
    let none : c.in_ok-frame.field-0 ≡ None = search rules in
    record {
      now = c.loop.host;
      ran = far.0;
      ended = inr (omega (arith, far.1.1, c.loop-test.true), rw (c.as_ref.ensures.value, far.1.0, none) at c.in_ok-frame.ensures.gives);
    }

pub returns-then-not-fits-clause-misfit : goal.returns-then-not-fits-clause-misfit
returns-then-not-fits-clause-misfit g c same =
    let far = c.loop.invariant.so_far in
    record {
      now = c.loop.host;
      ran = far.0;
      more = omega (arith, far.1.1, c.loop-test.true);
      frame = c.in-Some.frame;
      given = rw (c.as_ref.ensures.value, far.1.0, c.in-Some.is) at c.in_ok-frame.ensures.gives;
      misfit = λ fit. search rules;
    }

pub run_frame-requires-clause-engine : goal.run_frame-requires-clause-engine
run_frame-requires-clause-engine g c κs within = rw c.keep.ensures.same c.loop.invariant.engine

pub loop-preserved : goal.loop-preserved
loop-preserved g c =
    let m = g.S.SystemOf.meaning in
    let far = c.loop.invariant.so_far in
    let frame : Frame g.row.V.Denot = c.in-Some.frame in
    let log : Log g.row.V.Denot = c.in_ok-run_frame.field-0 in
    let gave = rw (c.as_ref.ensures.value, far.1.0, c.in-Some.is) at c.in_ok-frame.ensures.gives in
    let ran = rw c.keep.ensures.same at c.in_ok-run_frame.ensures in
    record {
      so_far = (
        record {
          frames = far.0.frames ++ frame ∷ [];
          logs = far.0.logs ++ log ∷ [];
          few = rw length_push (omega (arith, far.1.1, c.loop-test.true));
          given = given_more g.H.Host.gives None _ far.0.frames far.0.logs _ frame log _ far.0.given gave;
          ran = λ s stands.
              frames_and_one m _ _ s far.0.frames frame [] far.0.logs log (is_sound m c.args.self.now s stands)
              (far.0.ran s stands) ran.ran;
          since = λ s before earlier h.
              rw (← append_assoc, ← append_assoc) (ran.since s _ _ (far.0.since s before earlier h));
        },
        (rw last_of_more refl, rw length_push (omega (arith, far.1.1))),
      );
      engine = c.in_ok-run_frame.ensures.engine;
      alive = c.in_ok-run_frame.ensures.alive;
    }

pub returns-clause-ran : goal.returns-clause-ran
returns-clause-ran g c =
    let far = c.loop.invariant.so_far in
    record { now = c.loop.host; ran = far.0; ended = inl (omega (arith, far.1.1, c.loop-test.false), refl) }

pub returns-in_err-frame-clause-host : goal.returns-in_err-frame-clause-host
returns-in_err-frame-clause-host g c same =
    let far = c.loop.invariant.so_far in
    record {
      now = c.loop.host;
      ran = far.0;
      more = omega (arith, far.1.1, c.loop-test.true);
      refused = rw (c.as_ref.ensures.value, far.1.0) at c.in_err-frame.ensures.refuses;
    }

pub run_frame-requires-clause-posts : goal.run_frame-requires-clause-posts
run_frame-requires-clause-posts g c κs within =
    let fit : PostsFit c.loop.self c.in-Some.frame = search rules in rw c.keep.ensures.same fit

pub returns-in_err-run_frame-clause-no_memory : goal.returns-in_err-run_frame-clause-no_memory
returns-in_err-run_frame-clause-no_memory g c same =
    let far = c.loop.invariant.so_far in
    let failed : c.run_frame.result ≡ Err NoMemory =
    grind (arith, same, c.from_residual-in_err-run_frame.ensures, c.in_err-run_frame.was) in
    record {
      last = c.loop.self;
      now = c.loop.host;
      ran = far.0;
      more = omega (arith, far.1.1, c.loop-test.true);
      frame = c.in-Some.frame;
      given = rw (c.as_ref.ensures.value, far.1.0, c.in-Some.is) at c.in_ok-frame.ensures.gives;
      fits = search rules;
      counted = rw c.keep.ensures.same at (c.run_frame.ensures.not_counted failed);
      spoiled = c.run_frame.ensures.no_memory failed;
    }
