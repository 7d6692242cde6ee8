use Rattle.std.proofs.Common.{◌≡◌, ◌++◌, filter, map}
use Rattle.std.specs.List.{range_with_len}
use Rattle.msg_exec.specs.Prelude.{CoreStands}
use Rattle.msg_frames.specs.Prelude.{State}
use Rattle.msg_exec.proofs.accounts.add_accounts.Given as goal

abbrev pub invariant-loop-t : goal.invariant-loop-t
invariant-loop-t g l = (s : State g.V.Value.values) → CoreStands g.S.SystemOf.meaning l.core s
    → l.accounts.items ≡ l.initial.accounts.items
    ++ map (g.A.AccountIn.told g.V.Value.values s l.i)
    (filter (g.A.AccountIn.is_there g.V.Value.values s l.i) (range_with_len 0 l.t))
