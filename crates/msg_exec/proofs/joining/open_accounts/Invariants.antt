use Rattle.std.proofs.Common.{◌≡◌, ℕ, ◌<◌, length}
use Rattle.msg_frames.specs.Prelude.{totals_from}
use Rattle.msg_exec.specs.Prelude.{totals_at}
use Rattle.msg_exec.specs.inner.Totals.{first_place}
use Rattle.msg_exec.proofs.joining.open_accounts.Given as goal

abbrev pub invariant-loop-t : goal.invariant-loop-t
invariant-loop-t g l = record {
  as_many : length l.totals ≡ length l.initial.totals;
  opened : (u : ℕ) → u < l.t → totals_at l.totals u
      ≡ totals_from (first_place (g.S.SystemOf.meaning l.system) l.counts u);
}
