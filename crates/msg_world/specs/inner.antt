-- What only private functions cite.
pub mod Masks
pub mod Moved
pub mod MovedLends
pub mod Slots
pub mod Taken
