use Rattle.std.proofs.Common.{◌≡◌, ◌∙◌, add-one, ap, drop, not, refl, suc}
use Rattle.msg_frames.specs.Prelude.{with_answers}
use Rattle.std.proofs.lemmas.{List.drop_all, Option.slice_get_read}
use Rattle.msg_exec.proofs.EntriesAreAdded.{answers_from, without_replies}
use Rattle.msg_exec.specs.inner.Totals.{totals_with}
use Rattle.msg_exec.proofs.totals.any_adds.Goals as goal

pub loop-reply-preserved : goal.loop-reply-preserved
loop-reply-preserved g c t ops x =
    let k = c.loop-reply.reply-index in
    let replies = c.as_slice-reply-items.result.now in
    let none : totals_with t ops k c.reply-item.result x ≡ x = c.adds.ensures.none (ap not c.if-adds.false) t ops k x in
    rw add-one (c.loop-reply.invariant t ops x
    ∙ answers_from t ops replies k c.reply-item.result x
    (slice_get_read replies _ k _ refl c.loop-reply-test.true c.reply-item.is)
    ∙ ap (with_answers t (drop (suc k) ops) (drop (suc k) replies)) none)

pub returns : goal.returns
returns g c =
    let k = c.loop-reply.reply-index in
    let replies = c.as_slice-reply-items.result.now in
    let end = drop_all k replies c.loop-reply-test.false in
    record {
      none = λ _ t ops x.
          rw (c.in-Ran.is, ← c.as_slice-reply-items.ensures.items)
          (c.loop-reply.invariant t ops x ∙ rw end (without_replies t (drop k ops) x));
    }
