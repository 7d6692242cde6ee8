pub mod Work
pub mod Prelude
pub mod inner
