use Rattle.std.proofs.Common.{◌≡◌, length, refl, rules}
use Rattle.std.proofs.lemmas.List.{append-nil}
use Rattle.msg_function.proofs.Steps.{no_writes}
use Rattle.msg_function.proofs.function_system.FunctionSystem.new.Goals as goal

pub returns : goal.returns
returns g c =
    let many : length c.args.writes ≡ g.row.W = search rules in
    record {
      new = rw (
        c.from_vec.ensures.items,
        c.in_ok-from_array.ensures.items,
        c.from_vec-2.ensures.items,
        c.in_ok-from_array-2.ensures.items,
        c.in_ok-from_array-3.ensures.items,
        c.new-2.ensures.zero,
        c.in_ok-outbox.ensures.nothing,
        no_writes,
        append-nil,
        many,
      ) refl;
    }
