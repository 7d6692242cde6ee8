use Rattle.std.proofs.Common.{ap, sym, ◌∙◌, ◌∷◌}
use Rattle.atomic_table.specs.Table.{rest}
use Rattle.msg_board.specs.Prelude.{Job}
use Rattle.msg_board.proofs.slots.take_out.Goals as goal

pub exchange-requires : goal.exchange-requires
exchange-requires g c = let out = c.requires.job in
    (c.requires.table, (Job out.0, out.1 ∙ ap (λ l. (c.args.k, Job out.0) ∷ rest l) (sym out.1)))
