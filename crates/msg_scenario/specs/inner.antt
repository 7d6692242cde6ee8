pub mod LastRead
pub mod LineStarts
pub mod SoFar
pub mod Checking
