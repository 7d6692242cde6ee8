use Rattle.std.proofs.Common.{◌∙◌, ap, arith}
use Rattle.msg_frames.specs.Prelude.{with_entries}
use Rattle.msg_exec.specs.Prelude.{capped_totals}
use Rattle.msg_exec.specs.inner.Totals.{entry_at}
use Rattle.msg_exec.proofs.EntriesAreAdded.{in_two}
use Rattle.msg_exec.proofs.totals.enter_reply.Goals as goal

pub returns-clause-entered : goal.returns-clause-entered
returns-clause-entered g c t x lt is =
    let ops = (g.S.SystemOf.meaning c.args.system.now).last in
    let read = with_entries (entry_at t ops c.args.op c.args.reply.now) x in
    let first = c.enter_read.ensures.entered t x lt is in
    c.enter_refused.ensures.entered t read (omega (arith, lt, c.enter_read.ensures.as_many)) first
    ∙ ap capped_totals (in_two t ops c.args.op c.args.reply.now x)
