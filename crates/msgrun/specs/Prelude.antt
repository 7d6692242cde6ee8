-- Hands on the definitions cited elsewhere. The declared types serve this crate's proofs alone.
pub use Rattle.msgrun.specs.Ended.{main_fault, main_fault_of_check, status_after}
