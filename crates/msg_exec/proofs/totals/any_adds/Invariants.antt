use Rattle.std.proofs.Common.{◌≡◌, ℕ, List, drop}
use Rattle.msg_system.specs.declared.op.Op.{Op}
use Rattle.msg_frames.specs.{Prelude.with_answers, declared.totals.Totals.Totals}
use Rattle.msg_exec.proofs.totals.any_adds.Given as goal

-- what is added is what the replies to come add
abbrev pub invariant-loop-reply : goal.invariant-loop-reply
invariant-loop-reply g l = (t : ℕ) (ops : List (Op g.row.V.Denot)) (x : Totals) → with_answers t ops l.reply-items x
    ≡ with_answers t (drop l.reply-index ops) (drop l.reply-index l.reply-items) x
