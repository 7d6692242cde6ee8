pub mod History
pub mod Kept
pub mod Prelude
pub mod Reader
pub mod ReadCalls
pub mod Refusals
pub mod StandsFor
pub mod StretchTiling
