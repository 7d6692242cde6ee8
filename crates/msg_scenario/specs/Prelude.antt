-- Hands on the definitions cited elsewhere.
pub use Rattle.msg_scenario.specs.Making.{IsSystemAt}
pub use Rattle.msg_scenario.specs.ReportText.{account_line, accounts_text, answered_line, frame_text, frames_text, item_text, items_text, left_of, left_text, more_items, next_item, numbers_text, op_start, op_text, ops_text, outcome_text, post_line, posts_text, readers_text, reply_text, report_text, standing_text, text_so_far, told_writers, took_text, turn_text, writer_line, writers_text, written_text}
pub use Rattle.msg_scenario.specs.Reported.{EndsInText, HasRunFirst, IsReported, LeavesEngine, LeavesReport}
