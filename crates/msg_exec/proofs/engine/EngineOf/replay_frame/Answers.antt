use Rattle.std.proofs.Common.{◌∷◌, [], refl, ap, arith, inl, inr, is_some}
use Rattle.std.proofs.lemmas.Bool.{false≢true}
use Rattle.msg_exec.proofs.EngineRunsFrames.{its_core, still_fit, stood}
use Rattle.msg_frames.proofs.{Functions.run_keeps, ReaderOverRun.runs_are_complete, ReplaysTellTheSame.replays_tell}
use Rattle.msg_exec.proofs.SinceThen.{since_call}
use Rattle.msg_exec.proofs.engine.EngineOf.replay_frame.Goals as goal

pub accepts_next-requires : goal.accepts_next-requires
accepts_next-requires g c = record {
  stands = its_core g.S.SystemOf.meaning c.args.self.now _ c.in-Some.is c.requires.engine;
}

pub replay_one-requires-clause-stands : goal.replay_one-requires-clause-stands
replay_one-requires-clause-stands g c =
    its_core g.S.SystemOf.meaning c.args.self.now _ c.in-Some.is c.requires.engine

pub replay_one-requires-clause-lawful : goal.replay_one-requires-clause-lawful
replay_one-requires-clause-lawful g c s stands is =
    (c.in-Ok.ensures.lawful s stands is c.args.frame.now).0 c.if-not-is_lawful.false

pub returns-clause-replayed : goal.returns-clause-replayed
returns-clause-replayed g c s stands =
    let core = rw c.in-Some.is at stands.core in
    let ran = c.in-Ok-replay_one.ensures.replayed s core stands.frames in
    let frame = c.args.frame.now in
    let replay = ran.holds in
    record {
      lawful = replay.lawful;
      tells = replay.tells;
      in_order = replay.in_order;
      alike = replays_tell (frame ∷ []) s (_ ∷ []) (replay.tells, tt);
      complete = runs_are_complete (frame ∷ []) s core.sound;
      stands =
          record { core = rw c.count_frame.ensures.core ran.stands; frames = omega (arith, stands.frames, ran.frames) };
    }

pub returns-then-not-is_lawful-clause-engine : goal.returns-then-not-is_lawful-clause-engine
returns-then-not-is_lawful-clause-engine g c =
    let (s, (core, frames)) = its_core g.S.SystemOf.meaning c.args.self.now _ c.in-Some.is c.requires.engine in
    inr (s, record { core = core; frames = frames })

pub returns-clause-engine : goal.returns-clause-engine
returns-clause-engine g c =
    let was = stood g.S.SystemOf.meaning c.args.self.now (ap is_some c.in-Some.is) c.requires.engine in
    let ran = returns-clause-replayed g c was.0 was.1 in
    inr (_, ran.stands)

pub returns-then-not-is_lawful-clause-bad_order : goal.returns-then-not-is_lawful-clause-bad_order
returns-then-not-is_lawful-clause-bad_order g c s stands some =
    let tells = c.in-Ok.ensures.lawful s (rw c.in-Some.is at stands.core) stands.frames c.args.frame.now in
    grind (arith, tells, false≢true, c.if-not-is_lawful.true)

pub returns-clause-bad_order : goal.returns-clause-bad_order
returns-clause-bad_order g c s stands some =
    let tells = c.in-Ok.ensures.lawful s (rw c.in-Some.is at stands.core) stands.frames c.args.frame.now in
    grind (arith, tells, c.if-not-is_lawful.false)

pub returns-clause-since : goal.returns-clause-since
returns-clause-since g c s frames logs =
    since_call g.S.SystemOf.meaning _ _ (c.args.frame.now ∷ []) logs _ (λ u stands.
    let ran = returns-clause-replayed g c u stands in (_ ∷ [], refl, (ran.tells, tt), ran.stands)) s frames

pub returns-clause-alive : goal.returns-clause-alive
returns-clause-alive g c = grind (arith, c.count_frame.ensures.core)

pub returns-clause-fits : goal.returns-clause-fits
returns-clause-fits g c =
    let m = g.S.SystemOf.meaning in
    let frame = c.args.frame.now in
    let was = stood m c.args.self.now (ap is_some c.in-Some.is) c.requires.engine in
    still_fit m _ _ was.0 _ was.1 (returns-clause-replayed g c was.0 was.1).stands (run_keeps (frame ∷ []) was.0).types

pub returns-in_default-replay_one-clause-asked : goal.returns-in_default-replay_one-clause-asked
returns-in_default-replay_one-clause-asked g c refused s stands =
    let core = rw c.in-Some.is at stands.core in
    inl ((c.in-Ok.ensures.lawful s core stands.frames c.args.frame.now).0 c.if-not-is_lawful.false)

pub returns-in_default-accepts_next-clause-asked : goal.returns-in_default-accepts_next-clause-asked
returns-in_default-accepts_next-clause-asked g c none s stands =
    inr (c.in_default-accepts_next.ensures.asked s (rw c.in-Some.is at stands.core) stands.frames)
