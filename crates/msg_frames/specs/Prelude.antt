-- Hands on the definitions cited elsewhere. The declared types serve this crate's proofs alone.
pub use Rattle.msg_frames.specs.Accounts.{AddsUp, account_of, accounts_of, accounts_of_system, backlog_of, is_reader, is_writer, writer_account_of, writer_accounts_of, writer_accounts_of_system}
pub use Rattle.msg_frames.specs.Arranged.{IsArrangementOf, IsOrderly}
pub use Rattle.msg_frames.specs.CompleteRun.{IsCompleteRun, IsServed, IsTrueEntry, entries_in_run, message_numbered, refused_in_run}
pub use Rattle.msg_frames.specs.Entries.{ReadEntry, entries_at, entry_for, entry_of, entry_of_read, no_totals, numbers_cleared, numbers_given, numbers_missed, numbers_passed, entry_numbers, refused_at, refused_for, totals_from, with_entries, with_refused, with_steps}
pub use Rattle.msg_frames.specs.FirstState.{IsNew, first_state, new_job, default_system, default_place, before_joining, waiting_member}
pub use Rattle.msg_frames.specs.Frames.{post_steps, turns_steps, AfterFrame, AfterRun, UsesParts, are_in_conflict, frame, needs_conflict, run, AfterTurns, AreAccessesOf, Member, State, after_posts, after_turn_of, after_turns_of, before_turns, counts, frame_in, job_begun, join_flags, joined_member, member_after, after_joining, logged_turn, member_needs, outcome_of, post_replies, turn_order_in, turn_of, with_joining}
pub use Rattle.msg_frames.specs.Laws.{AreNew, BatchesRunSideBySide, FirstIsSound, FrameKeeps, FrameStaysSound, FramesAgreeInLawfulOrders, FramesKeepSystems, ReplaysTellTheSame, RunStaysSound, RunsAreComplete, SameMember, SameSystems, all_home, home, with_member}
pub use Rattle.msg_frames.specs.Replays.{IsLawfulFor, TellsTheSame}
pub use Rattle.msg_frames.specs.Soundness.{IsBalanced, IsSoundState, NoCycle}
pub use Rattle.msg_frames.specs.Steps.{IsWrittenOnce, all_written, answers_in, replies_of, written_in}
pub use Rattle.msg_frames.specs.Moments.{GivesItsStretch, Moment, found_at, messages_of, moments, moments_at, own_steps_in, reader_place, steps_of}
unfoldable pub use Rattle.msg_frames.specs.Frames.{parts, settled_order, turn_order}
pub use Rattle.msg_frames.specs.Logs.{cut_of, read_in, turn_in, turn_replies}
pub use Rattle.msg_frames.specs.LogEntries.{entries_for, entries_of_turns, ops_by, with_answer, with_answers}
pub use Rattle.msg_frames.specs.declared.frame.Frame.{Frame}
pub use Rattle.msg_frames.specs.declared.log.Log.{Log}
pub use Rattle.msg_frames.specs.declared.log.Outcome.{Outcome}
pub use Rattle.msg_frames.specs.declared.log.Outcome.TheVariants.{Ran, Skipped}
pub use Rattle.msg_frames.specs.declared.log.Turn.{Turn}
pub use Rattle.msg_frames.specs.declared.place.Place.{Place}
pub use Rattle.msg_frames.specs.declared.totals.Totals.{Totals}
pub use Rattle.msg_frames.specs.declared.writer_account.WriterAccount.{WriterAccount}
