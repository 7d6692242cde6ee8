pub mod Board
pub mod Counts
pub mod Law
pub mod Pass
pub mod Prelude
pub mod inner
