-- Hands on the definitions cited elsewhere. The declared types serve this crate's proofs alone.
pub use Rattle.msg_json.specs.Faults.{IsFaultOf, IsRefusedFor, IsUnread, Reading, Reads, at_step, fails, fault, found, here, in_element, in_item, in_key, in_nots, in_part, in_section, in_value, key_text, reason_refusal, refusal_of, wanted, ◌>>=◌}
pub use Rattle.msg_json.specs.Json.{IsJsonOf, IsNotJson, elements, is_list, is_list_of_numbers, is_number, is_object, keys, keys_of, list_of, not_negative, only_below}
pub use Rattle.msg_json.specs.Seen.{head_seen, items_seen, number_seen, text_seen, value_seen}
pub use Rattle.msg_json.specs.Values.{at_key, batch_of, below, headed, known_keys, limit, limit_of, list_up_to, natural, number_of, numbers_of, text_of as text_in, value_of, values_from, values_of, whole}
pub use Rattle.msg_json.specs.Keys.{is_calls_file}
pub use Rattle.msg_json.specs.Text.{Text}
pub use Rattle.msg_json.specs.Sinks.{AppendsAtLeast, AppendsPrefix, IsPut, TakesUnlessFailed, failures_after, one_failure_more}
pub use Rattle.msg_json.specs.Sources.{failures_after_read}
pub use Rattle.msg_json.specs.declared.refusal.Refusal.{Refusal}
pub use Rattle.msg_json.specs.declared.refusal.Refusal.TheVariants.{NoMemory, NotJson, Shape, TooMany, UnknownKey}
pub use Rattle.msg_json.specs.declared.sink.PutFault.{PutFault}
