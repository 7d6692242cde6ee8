use Rattle.std.proofs.Common.{◌≡◌, ◌+◌, length}
use Rattle.msg_buffer.specs.Prelude.{Continues, iter_place, iter_rest}
use Rattle.msg_buffer.proofs.laws.reads_may_be_left.Given as goal

abbrev pub invariant-loop : goal.invariant-loop
invariant-loop g l = record {
  place : iter_place l.unread ≡ iter_place l.initial.unread + l.counter;
  rest : length (iter_rest l.initial.unread) ≡ l.counter + length (iter_rest l.unread);
  continues : Continues l.initial.unread l.unread;
}
