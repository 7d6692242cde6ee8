pub mod Prelude
pub mod TurnLaws
pub mod Fates
pub mod ReaderLaws
pub mod UpToDate
pub mod WakeUps
pub mod Latency
pub mod Observers
