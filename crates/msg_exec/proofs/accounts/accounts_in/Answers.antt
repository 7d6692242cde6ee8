use Rattle.std.proofs.Common.{ℕ, [], filter, map}
use Rattle.std.specs.List.{range_with_len}
use Rattle.std.proofs.lemmas.List.{flat_map_more}
use Rattle.msg_order.proofs.Elements.{range_more}
use Rattle.msg_exec.proofs.accounts.accounts_in.Goals as goal

pub loop-i-preserved : goal.loop-i-preserved
loop-i-preserved g c s stands =
    let i = c.loop-i.i in
    let values = g.V.Value.values in
    let of_system = λ (k : ℕ). map (g.A.AccountIn.told values s k) (filter (g.A.AccountIn.is_there values s k) (range_with_len 0 s.types)) in
    rw (range_more i, ← flat_map_more of_system [] (range_with_len 0 i) i)
    (rw (← c.loop-i.invariant s stands) (c.in_ok-add_accounts.ensures.added s stands))
