-- Hands on the definitions cited elsewhere. The declared types serve this crate's proofs alone.
pub use Rattle.msg_calls.specs.CallsFormat.{call_of, calls_from, calls_of, file_of}
pub use Rattle.msg_calls.specs.CallsText.{BufferState, TakesFirstLines, after, calls_text, pair_text, pairs_text, line, more_pairs, start, text_of, value_text, range_text}
pub use Rattle.msg_calls.specs.Cursors.{cursors_exist, has_cursor, made_by}
pub use Rattle.msg_calls.specs.declared.call.Call.{Call}
