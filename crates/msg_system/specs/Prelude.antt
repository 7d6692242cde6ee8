-- Hands on the definitions cited elsewhere. The declared types serve this crate's proofs alone.
pub use Rattle.msg_system.specs.Behaviors.{behaves, brought}
pub use Rattle.msg_system.specs.Conditions.{AfterJob, Asked, Job, after_asking, after_job, all_hold, answer, asked_started, conditions_of, probe_answer, inverted, new_asked, place_after}
pub use Rattle.msg_system.specs.Footprints.{Agree, ConditionFootprint, HasFootprint, IsWithin, JobFootprint, OpFootprint, ProgramFootprint, TurnFootprint, given_by_job, given_by_op, given_by_program}
pub use Rattle.msg_system.specs.Needs.{FitsWorld, HasClash, IsAccessOf, Needs, condition_needs, is_none_or, is_part, is_resource, job_needs, keeps_to, may_read, needs_any, needs_of, op_needs, probe_part, program_needs, some_condition_reads, some_op_reads, some_op_writes, refused_in, type_read, type_read_by, type_written, with_conditions}
pub use Rattle.msg_system.specs.OpRuns.{IsAfterOp, MayBeRefused, OpRan, cursor_places}
pub use Rattle.msg_system.specs.Programs.{AfterOp, AfterProgram, Step, after_op, after_program, again_by, is_spent, numbers_for, op_parts, place_after_read, refused_by, reply_took, sets_to, sum_onto, took, with_place, write_reply, writes_all, wrote}
pub use Rattle.msg_system.specs.Promises.{CompleteCovers, Covers, JobsCover, OneOpIsATurn, OneOpIsCovered, Ran, WrittenIsAll, WrittenStand}
pub use Rattle.msg_system.specs.Systems.{BeginsTurnsWith, IsInOrder, IsUncut, IsWholeTurn, KeepsWithinBounds, Meaning, OpRule, TurnsAreWhole, TurnsWithinBounds, after_at_most, after_turn, is_cut, cut_after, new_system, next_done, next_op, of_program, one_more, only, ops_answered, refusal, start_place, after_start, started_places, after_replies}
unfoldable pub use Rattle.msg_system.specs.Systems.{turn}
pub use Rattle.msg_system.specs.declared.condition.Condition.{Condition}
pub use Rattle.msg_system.specs.declared.condition.Probe.{Probe}
pub use Rattle.msg_system.specs.declared.condition.Probe.TheVariants.{OnMessage, ResourceEquals}
pub use Rattle.msg_system.specs.declared.cursors.Cursors.{Cursors}
pub use Rattle.msg_system.specs.declared.op.Op.{Op}
pub use Rattle.msg_system.specs.declared.program.Program.{Program}
pub use Rattle.msg_system.specs.declared.reply.Refused.{Refused}
pub use Rattle.msg_system.specs.declared.reply.Reply.{Reply}
pub use Rattle.msg_system.specs.declared.reply.Took.{Took}
pub use Rattle.msg_system.specs.declared.start.Start.{Start}
pub use Rattle.msg_system.specs.declared.start.Start.TheVariants.{Zero}
