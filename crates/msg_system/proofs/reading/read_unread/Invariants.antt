use Rattle.std.proofs.Common.{◌≡◌, ◌++◌, ◌+◌, ◌≤◌, length, map, vec_capacity}
use Rattle.msg_buffer.specs.Prelude.{Continues, iter_place, iter_rest, message_of}
use Rattle.msg_system.proofs.reading.read_unread.Given as goal

abbrev pub invariant-loop-copied : goal.invariant-loop-copied
invariant-loop-copied g l = record {
  given : map message_of (iter_rest l.initial.rest) ≡ l.items.items ++ map message_of (iter_rest l.rest);
  place : iter_place l.rest ≡ iter_place l.initial.rest + length l.items.items;
  continues : Continues l.initial.rest l.rest;
  as_many : length l.items.items ≡ l._copied;
  room : l.most ≤ vec_capacity l.items;
}
