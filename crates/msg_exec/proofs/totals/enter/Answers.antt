use Rattle.std.proofs.Common.{add-one, refl, arith, ap, sym, ◌∙◌}
use Rattle.msg_exec.specs.Prelude.{capped_totals}
use Rattle.msg_exec.specs.inner.Totals.{totals_with}
use Rattle.std.proofs.lemmas.{List.drop_all, Option.slice_get_read}
use Rattle.msg_exec.proofs.EntriesAreAdded.{answers_from, without_replies}
use Rattle.msg_exec.proofs.totals.enter.Goals as goal

pub loop-reply-preserved : goal.loop-reply-preserved
loop-reply-preserved g c =
    let inv = c.loop-reply.invariant in
    let ops = (g.S.SystemOf.meaning c.args.system.now).last in
    let k = c.loop-reply.reply-index in
    let replies = c.as_slice-reply-items.result.now in
    record {
      op = omega (arith, inv.op);
      as_many = c.enter_reply.ensures.as_many ∙ inv.as_many;
      entered = λ t x lt is.
          let far = inv.entered t x lt is in (
            totals_with t ops k c.reply-item.result far.0,
            c.enter_reply.ensures.entered t far.0 (omega (arith, lt, inv.as_many)) far.1
                ∙ ap (λ n. capped_totals (totals_with t ops n c.reply-item.result far.0)) inv.op,
            rw add-one
                (sym (answers_from t ops replies k c.reply-item.result far.0
                (slice_get_read replies _ k _ refl c.loop-reply-test.true c.reply-item.is)) ∙ far.2),
          );
    }

pub returns-clause-entered : goal.returns-clause-entered
returns-clause-entered g c t x lt is =
    let far = c.loop-reply.invariant.entered t x lt is in
    let end = drop_all c.loop-reply.reply-index c.as_slice-reply-items.result.now c.loop-reply-test.false in
    rw (c.in-Ran.is, ← c.as_slice-reply-items.ensures.items)
    (far.1 ∙ ap capped_totals (rw (end, without_replies) at far.2))
