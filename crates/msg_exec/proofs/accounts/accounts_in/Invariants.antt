use Rattle.std.proofs.Common.{◌≡◌, filter, flat_map, map}
use Rattle.std.specs.List.{range_with_len}
use Rattle.msg_frames.specs.Prelude.{State}
use Rattle.msg_exec.specs.Prelude.{CoreStands}
use Rattle.msg_exec.proofs.accounts.accounts_in.Given as goal

abbrev pub invariant-loop-i : goal.invariant-loop-i
invariant-loop-i g l = (s : State g.V.Value.values) → CoreStands g.S.SystemOf.meaning l.core s
    → l.accounts.items ≡ flat_map (λ k. map (g.A.AccountIn.told g.V.Value.values s k)
    (filter (g.A.AccountIn.is_there g.V.Value.values s k) (range_with_len 0 s.types))) (range_with_len 0 l.i)
