pub mod Lines
pub mod Requests
pub mod Served
pub mod Prelude
pub mod inner
