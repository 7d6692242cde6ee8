-- What only private functions cite.
pub mod EngineParts
pub mod Totals
pub mod SystemsOut
pub mod Batches
pub mod Posts
pub mod FrameSteps
