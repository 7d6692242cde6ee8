-- Hands on the definitions cited elsewhere. The declared types serve this crate's proofs alone.
pub use Rattle.msg_advice.specs.Laws.{ArrangementsTellPlans, FramesRunAsPlanned}
pub use Rattle.msg_advice.specs.Order.{IsPlanFor, chain, is_next, link, precedes, state_in, turns_in}
unfoldable pub use Rattle.msg_advice.specs.Order.{plan_in}
pub use Rattle.msg_advice.specs.Unfit.{DoClash, Lead}
