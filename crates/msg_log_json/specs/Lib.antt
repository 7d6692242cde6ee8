pub mod LogJson
pub mod RefusedJson
pub mod Prelude
pub mod inner
