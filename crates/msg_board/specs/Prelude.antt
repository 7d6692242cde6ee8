-- Hands on the definitions cited elsewhere. The declared types serve this crate's proofs alone.
pub use Rattle.msg_board.specs.Board.{BoardView, HasEnded, IsIdle, IsLawfulOutcome, IsNewPass, IsOf, jobs_of, passes_of}
pub use Rattle.msg_board.specs.Counts.{HoldsEachOnce, is_held, times}
pub use Rattle.msg_board.specs.Law.{Drawing, DrawsJob, HandingIn, Holds, IsHeldAlone, IsSlotOf, IsViewOf, draws_at, without_job, holders_at, one_of, empty_view, with_job, tried, view_union, whole_view, without_one}
pub use Rattle.msg_board.specs.Pass.{Drew, DrewNone, HandedIn, PassState, drawn_by, handed_in, handed_in_by}
pub use Rattle.msg_board.specs.declared.law.Slot.{Slot}
pub use Rattle.msg_board.specs.declared.law.Slot.TheVariants.{Done, Empty, Job}
pub use Rattle.msg_board.specs.declared.law.View.{View}
pub use Rattle.msg_board.specs.declared.pass.Pass.TheInside.{Inside}
