pub mod Making
pub mod Prelude
pub mod ReportText
pub mod Reported
pub mod Checked
pub mod FromBytes
pub mod inner
