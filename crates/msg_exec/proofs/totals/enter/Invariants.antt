use Rattle.std.proofs.Common.{◌≡◌, ℕ, ◌<◌, length, drop}
use Rattle.msg_frames.specs.declared.totals.Totals.{Totals as TotalsOf}
use Rattle.msg_frames.specs.Prelude.{with_answers}
use Rattle.msg_exec.specs.Prelude.{capped_totals, totals_at}
use Rattle.msg_exec.proofs.totals.enter.Given as goal

-- the answers to come lead from what is kept to what it is to be
abbrev pub invariant-loop-reply : goal.invariant-loop-reply
invariant-loop-reply g l = record {
  op : l.op ≡ l.reply-index;
  as_many : length l.totals ≡ length l.initial.totals;
  entered : (t : ℕ) (x : TotalsOf) → t < length l.initial.totals → totals_at l.initial.totals t ≡ capped_totals x
      → (y : TotalsOf) × (totals_at l.totals t ≡ capped_totals y)
      × (with_answers t (drop l.reply-index (g.S.SystemOf.meaning l.system).last) (drop l.reply-index l.reply-items) y
      ≡ with_answers t (g.S.SystemOf.meaning l.system).last l.reply-items x);
}
