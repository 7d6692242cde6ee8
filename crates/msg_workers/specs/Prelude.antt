-- Hands on the definitions cited elsewhere.
pub use Rattle.msg_workers.specs.Work.{EachMay, EachNewIs, EachPassedGate, PassedGate}
