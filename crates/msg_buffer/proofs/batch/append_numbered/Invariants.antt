use Rattle.std.proofs.Common.{◌≡◌, ◌+◌, ◌++◌, ◌≤◌, vec_len, vec_capacity}
use Rattle.std.specs.Vec.Iter.{into_iter_items, into_iter_len}
use Rattle.msg_buffer.specs.Prelude.{numbered}
use Rattle.msg_buffer.proofs.batch.append_numbered.Given as goal

abbrev pub invariant-loop-message : goal.invariant-loop-message
invariant-loop-message g l =
    (goal.iterator-loop-message g).can_next l.message-iterator ×
    (goal.iterator-loop-message g).is_finite l.message-iterator ×
    (l.next + into_iter_len l.message-iterator ≡ l.initial.next + into_iter_len l.initial.message-iterator) ×
    (vec_len l.instances + into_iter_len l.message-iterator
    ≡ vec_len l.initial.instances + into_iter_len l.initial.message-iterator) ×
    (vec_len l.instances + into_iter_len l.message-iterator ≤ vec_capacity l.instances) ×
    (l.instances.items ++ numbered l.next (into_iter_items l.message-iterator) ≡ l.initial.instances.items
    ++ numbered l.initial.next (into_iter_items l.initial.message-iterator))
