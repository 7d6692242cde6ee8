pub mod CommandLine
pub mod Asked
pub mod Inputs
pub mod Faults
pub mod Prelude
pub mod inner
