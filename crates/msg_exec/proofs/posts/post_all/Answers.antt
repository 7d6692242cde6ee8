use Rattle.std.proofs.Common.{◌≡◌, List, [], ◌∷◌, ◌++◌, ℕ, ◌∙◌, refl, arith, take}
use Rattle.std.proofs.lemmas.{List.length_push, List.take_all, List.take_more, Option.slice_get_read}
use Rattle.msg_world.specs.{declared.part.Part.TheVariants.OfType, declared.record.TheConstants.HOST, Prelude.WorldState, Prelude.by, Prelude.with_history, Prelude.Values}
use Rattle.msg_buffer.specs.Prelude.{write}
use Rattle.msg_system.specs.Prelude.{numbers_for, write_reply}
use Rattle.msg_frames.specs.Prelude.{after_posts, post_replies}
use Rattle.msg_exec.proofs.ItemsOfLists.{if_refused}
use Rattle.msg_exec.proofs.posts.post_all.Goals as goal

module _ {V : Type 0} {values : Values V} where
  abbrev after_post : ℕ × V → WorldState values → WorldState values
  after_post p w = with_history w p.0 (write (by HOST p.1 ∷ []) (w.histories p.0))

  posted_more : (ps : List (ℕ × V)) (p : ℕ × V) (w : WorldState values) → after_posts (ps ++ p ∷ []) w
      ≡ after_post p (after_posts ps w)
  posted_more [] p w = refl
  posted_more (q ∷ ps) p w = posted_more ps p (after_post q w)

  replies_more : (ps : List (ℕ × V)) (p : ℕ × V) (w : WorldState values)
      → post_replies (ps ++ p ∷ []) w ≡ post_replies ps w
      ++ write_reply (numbers_for ((after_posts ps w).histories p.0) 1) ∷ []
  replies_more [] p w = refl
  replies_more (q ∷ ps) p w = rw (replies_more ps p (after_post q w)) refl

pub post-requires : goal.post-requires
post-requires g c =
    let p : ℕ × g.row.V.Denot = c.loop-t-item.result in
    record {
      home = c.loop-t.invariant.shape.there (OfType p.0)
          ∙ c.requires.whole (OfType p.0) (rw c.loop-t-item.is (c.requires.types c.loop-t.t-index p (omega arith)));
    }

pub loop-t-preserved : goal.loop-t-preserved
loop-t-preserved g c =
    let p : ℕ × g.row.V.Denot = c.loop-t-item.result in
    let did = c.in_ok-reply.ensures in
    record {
      so_far = λ w stands.
          let k = c.loop-t.t-index in
          let ps = c.args.posts.now in
          let far = c.loop-t.invariant.so_far w stands in
          rw (c.in-Ok.ensures.items, take_more ps k p c.loop-t-test.true, ← c.loop-t-item.is) (
            rw (posted_more (take k ps) p w) (did.state _ far.0),
            rw (replies_more (take k ps) p w, ← did.reply _ far.0, far.1) refl,
          );
      shape = grind arith;
      as_many = rw (c.in-Ok.ensures.items, length_push, c.loop-t.invariant.as_many) refl;
      room = omega (arith, c.loop-t.invariant.room, c.in-Ok.ensures.capacity);
    }

pub returns-in_err-reply-clause-no_memory : goal.returns-in_err-reply-clause-no_memory
returns-in_err-reply-clause-no_memory g c =
    let k : ℕ = c.loop-t.t-index in
    if_refused c.from_residual.result (λ w stands. (
      k,
      record {
        post = c.loop-t-item.result;
        is_post = slice_get_read c.args.posts.now _ k _ refl c.loop-t-test.true c.loop-t-item.is;
        room = c.in_err-reply.ensures.no_memory (after_posts (take k c.args.posts.now) w)
            (c.loop-t.invariant.so_far w stands).0;
      },
    ))

pub returns-clause-state : goal.returns-clause-state
returns-clause-state g c w stands =
    (rw (take_all c.loop-t.t-index c.args.posts.now (omega arith)) at (c.loop-t.invariant.so_far w stands)).0
