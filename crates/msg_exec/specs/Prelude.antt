-- Hands on the definitions cited elsewhere. The declared types and variants serve this crate alone.
pub use Rattle.msg_exec.specs.Building.{Added, AllFit, EachIs, FitBelow, IsJoin, IsLowestClash, IsLowestMisfit, MayBeAdded, NoneIsClash, RefusesFor, RefusesToAdd, RefusesToBuild, SystemFits, numbered_from}
pub use Rattle.msg_exec.specs.Cores.{CoreStands, FixedParts, SomeJoin, frame_count}
pub use Rattle.msg_exec.specs.Engines.{HasReplayed, HasRunFrame, HasRunFrames, HasRunSince, HasRunSome, IsEngine, IsSpoiled, PostsFit, EngineStands, frame_number}
pub use Rattle.msg_exec.specs.Jobs.{HasTakenTurn, IsAfterJob, IsDone, IsResult, JobView, MayRun, job_state}
pub use Rattle.msg_exec.specs.Keeping.{capped_totals, totals_at, within_u64}
pub use Rattle.msg_exec.specs.Lender.{AreJoins, LenderStands, MemberStands, TotalsStand, system_at}
pub use Rattle.msg_exec.specs.declared.build_error.BuildError.TheVariants.{Misfit, UnknownSystem}
pub use Rattle.msg_exec.specs.declared.build_refusal.BuildRefusal.{BuildRefusal}
pub use Rattle.msg_exec.specs.declared.build_refusal.BuildRefusal.TheVariants.{Clash, Cycle, NoMemory}
pub use Rattle.msg_exec.specs.declared.engine.EngineOf.{EngineOf}
pub use Rattle.msg_exec.specs.declared.engine_core.Core.{Core}
pub use Rattle.msg_exec.specs.declared.job.GuardedSystem.{GuardedSystem}
pub use Rattle.msg_exec.specs.declared.lender.Lender.{Lender}
