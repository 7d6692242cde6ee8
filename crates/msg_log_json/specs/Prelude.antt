-- Hands on the definitions cited elsewhere.
pub use Rattle.msg_log_json.specs.LogJson.{account_json, answer_json, comma_before, frame_line, items_json, list_item, listed, message_json, numbers_json, op_json, outcome_json, outcome_json_of, past_json, post_json, posted_json, readers_line, replies_json, reply_json, resource_json, resources_json, rest_json, spent_json, took_json, turn_json, type_json, types_json, value_json, writer_json, wrote_json}
unfoldable pub use Rattle.msg_log_json.specs.LogJson.{happened_json, kept_json, numbered, of_resource, of_type, standing_json, use_json}
pub use Rattle.msg_log_json.specs.RefusedJson.{IsPlain, not_json_line, place_json, refused_line, too_long_line}
unfoldable pub use Rattle.msg_log_json.specs.RefusedJson.{refused_head}
