pub mod Prelude
pub mod Functions
pub mod Ready
pub mod inner
