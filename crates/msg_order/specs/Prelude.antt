-- Hands on the definitions cited elsewhere. The declared types serve this crate's proofs alone.
pub use Rattle.msg_order.specs.Graph.{Graph, IsAcyclic, IsBatchNumber, IsChain, IsEdge, IsLowestOnCycle, Path, path}
pub use Rattle.msg_order.specs.Laws.{BatchNumbersRise, BatchesAreByNumber, ConflictingSystemsAreOrdered, FewerSystemsMakeNoCycle, LawfulOrdersKeepPaths, SettledIsTheOrder, SettlingMakesNoCycle, TurnOrderIsLawful}
pub use Rattle.msg_order.specs.Order.{AreBatches, IsAmong, IsFirstUnknown, IsLawfulOrder, IsTurnOrder, NameSystemsBelow, NamesBelow, RunsBefore, StandsBefore, TellsConflicts, access_of, batch_at}
pub use Rattle.msg_order.specs.Settled.{batches, batches_of, edges_of, follows, has_joined, pairs, rules_among, settle, settled, turns}
pub use Rattle.msg_order.specs.Plan.{IsPlanOf, NoneConflict, PlanView, plan_of, square}
pub use Rattle.msg_order.specs.declared.rule.Rule.{Rule}
pub use Rattle.msg_order.specs.declared.system_set.SystemSet.{SystemSet}
