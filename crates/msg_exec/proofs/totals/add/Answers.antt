use Rattle.std.proofs.Common.{rules, ap, ◌∙◌, option_to_list}
use Rattle.msg_frames.specs.Prelude.{entry_of, with_entries}
use Rattle.msg_frames.proofs.EntriesAddUp.{with_clear}
use Rattle.msg_exec.proofs.EntriesAreAdded.{kept_alike}
use Rattle.msg_exec.proofs.totals.add.Goals as goal

pub returns-in-Cleared : goal.returns-in-Cleared
returns-in-Cleared g c = record {
  added = λ x is.
      let told = ap (λ r. with_entries (option_to_list (entry_of r)) x) c.in-Cleared.is in
      kept_alike (told ∙ with_clear g.row.V.Denot c.in-Cleared.missed c.in-Cleared.first c.in-Cleared.n x) (search rules);
}
