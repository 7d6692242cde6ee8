-- Hands on the definitions cited elsewhere. The declared types serve this crate's proofs alone.
pub use Rattle.msg_buffer.specs.History.{Entry, GoesOn, HasRisingStamps, History, IsPresent, IsSound, OnlyGrows, OutliveOneUpdate, clear, count, current, empty, get, has_room, instance_of, instances, is_current, is_present, message_of, numbered, oldest, present, stamped, update, write}
pub use Rattle.msg_buffer.specs.Kept.{HasNumbersFrom, Kept, get_from, kept_count, kept_instances}
pub use Rattle.msg_buffer.specs.Reader.{Fits, Stretch, Tile, at_most, first, given, missed, next_place, pass_over, read, unread}
pub use Rattle.msg_buffer.specs.ReadCalls.{Continues, Gives, HasGiven, iter_place, iter_rest, instance_shown}
pub use Rattle.msg_buffer.specs.Refusals.{IsBatchSpent, IsSpent, batch_refused, message_refused}
pub use Rattle.msg_buffer.specs.StandsFor.{StandsFor}
pub use Rattle.msg_buffer.specs.StretchTiling.{ClearsFit, ClearsLeaveNone, Pass, ReadsFit, ReadsUpTo, RunsTile, clears, reads, stretch_of}
pub use Rattle.msg_buffer.specs.declared.instance.Instance.{Instance}
