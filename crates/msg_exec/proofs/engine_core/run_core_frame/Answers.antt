use Rattle.std.proofs.Common.{get_or, slice_index_or, [], ◌∙◌, ℕ}
use Rattle.std.specs.{Global.Vec, List.concat}
use Rattle.std.proofs.lemmas.{List.get_or-map, List.Elements.Contains-get_or}
use Rattle.msg_order.proofs.Elements.{Contains-concat}
use Rattle.msg_frames.proofs.{FramesInOrder.in_that_order, FramesInOrder.logged_in, StatesStaySound.has_one_turn, StatesStaySound.turn_below}
use Rattle.msg_exec.proofs.CoreRunsFrame.{frame_ran, in_batch_apart, in_turn}
use Rattle.msg_frames.specs.Prelude.{before_turns}
use Rattle.msg_exec.proofs.engine_core.run_core_frame.Goals as goal

pub run_batches-requires-clause-stands : goal.run_batches-requires-clause-stands
run_batches-requires-clause-stands g c κs within =
    let (s, (stands, is)) = c.requires.stands in
    let has = c.in_ok-posts.ensures.opened s stands is in
    let batches = c.batches-batches.result.now in
    let bt = before_turns c.args.frame.now.posts s in (
      bt,
      (
        has.lender,
        λ k d lt j e below. turn_below bt _ (rw (← in_turn g.S.SystemOf.meaning has stands.sound) (Contains-concat c.open_frame.new.core.plan.batches k (slice_index_or (get_or batches k d).items j e)
            (rw (← c.batches-batches.ensures.items) (rw (get_or-map (λ (b : Vec ℕ). b.items) batches k d [] lt)
            (Contains-get_or (get_or batches k d).items j e below))))),
      ),
    )

pub run_batches-requires-clause-once : goal.run_batches-requires-clause-once
run_batches-requires-clause-once g c κs within =
    let (s, (stands, is)) = c.requires.stands in
    rw (c.batches-batches.ensures.items, in_turn g.S.SystemOf.meaning (c.in_ok-posts.ensures.opened s stands is) stands.sound)
    (has_one_turn (before_turns c.args.frame.now.posts s))

pub run_batches-requires-clause-apart : goal.run_batches-requires-clause-apart
run_batches-requires-clause-apart g c κs within =
    let (s, (stands, is)) = c.requires.stands in
    rw c.batches-batches.ensures.items
    (in_batch_apart g.S.SystemOf.meaning (c.in_ok-posts.ensures.opened s stands is) stands.sound)

pub returns : goal.returns
returns g c =
    let frame = c.args.frame.now in
    let order = concat c.open_frame.new.core.plan.batches in
    let replies = c.in_ok-posts.posts.items in
    let turns = rw c.batches-batches.ensures.items at c.in_ok-turns.ensures in
    record {
      ran = λ s stands is.
          let has = c.in_ok-posts.ensures.opened s stands is in
          let same = in_turn g.S.SystemOf.meaning has stands.sound in
          frame_ran g.S.SystemOf.meaning has stands.sound
          (rw same at (turns.turned _ has.lender).state) (rw same at (logged_in frame order s _ replies
          c.from_vec.ensures.items has.posts (c.from_vec-2.ensures.items ∙ (turns.turned _ has.lender).turns))) turns.accesses;
      gate_passed =
          let (s, (stands, is)) = c.requires.stands in
          let has = c.in_ok-posts.ensures.opened s stands is in
          rw (in_that_order frame order s _ (logged_in frame order s _ replies c.from_vec.ensures.items has.posts
          (c.from_vec-2.ensures.items ∙ (turns.turned _ has.lender).turns))) turns.gate_passed;
    }
