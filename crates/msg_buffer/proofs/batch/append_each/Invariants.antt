use Rattle.std.proofs.Common.{◌≡◌, ◌+◌, ◌++◌, List, take, vec_len, vec_capacity}
use Rattle.std.specs.{Fn.FnReturnsAt, List.AllZip}
use Rattle.msg_buffer.specs.Prelude.{numbered}
use Rattle.msg_buffer.proofs.batch.append_each.Given as goal

abbrev pub invariant-loop-item : goal.invariant-loop-item
invariant-loop-item g l =
    (l.next ≡ l.initial.next + l.item-index) ×
    (vec_len l.instances ≡ vec_len l.initial.instances + l.item-index) ×
    (vec_capacity l.instances ≡ vec_capacity l.initial.instances) ×
    ((ms : List _) × AllZip (FnReturnsAt g.F.Fn l.message_of) (take l.item-index l.items) ms
    × (l.instances.items ≡ l.initial.instances.items ++ numbered l.initial.next ms))
