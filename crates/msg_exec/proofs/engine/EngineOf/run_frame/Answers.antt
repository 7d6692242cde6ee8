use Rattle.std.proofs.Common.{◌∷◌, [], inr, refl, arith, ap, is_some}
use Rattle.msg_exec.proofs.EngineRunsFrames.{its_core, still_fit, stood}
use Rattle.msg_frames.proofs.{Functions.run_keeps, ReaderOverRun.runs_are_complete}
use Rattle.msg_exec.proofs.SinceThen.{each_itself, since_call}
use Rattle.msg_exec.proofs.engine.EngineOf.run_frame.Goals as goal

pub run_core_frame-requires-clause-stands : goal.run_core_frame-requires-clause-stands
run_core_frame-requires-clause-stands g c κs within =
    its_core g.S.SystemOf.meaning c.args.self.now _ c.in-Some.is c.requires.engine

pub returns-clause-ran : goal.returns-clause-ran
returns-clause-ran g c s stands =
    let core = rw c.in-Some.is at stands.core in
    let ran = c.in-Ok.ensures.ran s core stands.frames in
    record {
      tells = ran.holds;
      complete = runs_are_complete (c.args.frame.now ∷ []) s core.sound;
      stands =
          record { core = rw c.count_frame.ensures.core ran.stands; frames = omega (arith, stands.frames, ran.frames) };
    }

pub returns-clause-engine : goal.returns-clause-engine
returns-clause-engine g c =
    let some = ap is_some c.in-Some.is in
    let was = stood g.S.SystemOf.meaning c.args.self.now some c.requires.engine in
    let ran = returns-clause-ran g c was.0 was.1 in
    inr (_, ran.stands)

pub returns-clause-since : goal.returns-clause-since
returns-clause-since g c s frames logs =
    since_call g.S.SystemOf.meaning _ _ (c.args.frame.now ∷ []) logs _ (λ u stands.
    let ran = returns-clause-ran g c u stands in (_ ∷ [], refl, rw (← ran.tells) (each_itself (_ ∷ [])), ran.stands)) s frames

pub returns-clause-alive : goal.returns-clause-alive
returns-clause-alive g c = grind (arith, c.count_frame.ensures.core)

pub returns-clause-fits : goal.returns-clause-fits
returns-clause-fits g c =
    let m = g.S.SystemOf.meaning in
    let frame = c.args.frame.now in
    let was = stood m c.args.self.now (ap is_some c.in-Some.is) c.requires.engine in
    still_fit m _ _ was.0 _ was.1 (returns-clause-ran g c was.0 was.1).stands (run_keeps (frame ∷ []) was.0).types
