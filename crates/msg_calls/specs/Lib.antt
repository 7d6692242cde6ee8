pub mod Prelude
pub mod Cursors
pub mod CallsFormat
pub mod CallsText
pub mod inner
