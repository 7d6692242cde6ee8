use Rattle.std.proofs.Common.{◌++◌, ◌∙◌, ap}
use Rattle.std.proofs.lemmas.List.Elements.{Contains-get_or}
use Rattle.msg_frames.specs.declared.log.Log.{Log}
use Rattle.msg_frames.specs.Prelude.{after_turns_of, before_turns, State}
use Rattle.msg_frames.proofs.{FramesInOrder.in_that_order, FramesInOrder.logged_in, LawfulOrdersAgree.frames_agree, SystemsStay.joined_below}
use Rattle.msg_system.proofs.FootprintsHold.{job_footprint}
use Rattle.msg_exec.proofs.CoreRunsFrame.{frame_ran}
use Rattle.msg_exec.proofs.EngineRunsFrames.{accesses_of}
use Rattle.msg_exec.proofs.replay.replay_one.Goals as goal

pub run_turns-requires-clause-stands : goal.run_turns-requires-clause-stands
run_turns-requires-clause-stands g c κs within =
    let (s, (stands, is)) = c.requires.stands in
    let lawful = (c.requires.lawful s stands is).lawful in
    let bt : State g.V.Value.values = before_turns c.args.frame.now.posts s in (
      bt,
      (
        (c.in_ok-posts.ensures.opened s stands is).lender,
        λ k d lt. joined_below bt _ ((lawful.of_joined _).0 (Contains-get_or c.args.order.now k d lt)),
      ),
    )

pub returns : goal.returns
returns g c = record {
  replayed = λ s stands is.
      let m = g.S.SystemOf.meaning in
      let frame = c.args.frame.now in
      let order = c.args.order.now in
      let has = c.in_ok-posts.ensures.opened s stands is in
      let lawful = c.requires.lawful s stands is in
      let bt : State g.V.Value.values = before_turns frame.posts s in
      let told = logged_in frame order s _ c.in_ok-posts.posts.items c.from_vec.ensures.items has.posts
      (c.from_vec-2.ensures.items ∙ (c.in_ok-run_turns.ensures.turned bt has.lender).turns
      ∙ ap (λ ts. ts ++ (after_turns_of order bt).turns) c.in_ok-turns.ensures.empty) in
      let alike = frames_agree job_footprint frame s c.args.core.now.lender.accesses.items order
      stands.sound.uses stands.sound.no_cycle (accesses_of m stands) lawful in
      frame_ran m has stands.sound
      (rw alike.0 at (c.in_ok-run_turns.ensures.turned bt has.lender).state)
      (record {
        lawful = lawful;
        tells = record {
          posts = ap (λ (l : Log g.row.V.Denot). l.posts) told ∙ alike.1.posts;
          turns = rw (ap (λ (l : Log g.row.V.Denot). l.turns) told) alike.1.turns;
        };
        in_order = in_that_order frame order s _ told;
      })
      c.in_ok-run_turns.ensures.accesses;
}
