pub mod Laws
pub mod Order
pub mod Prelude
pub mod Unfit
pub mod inner
