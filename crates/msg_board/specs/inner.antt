-- What only private functions cite.
pub mod Closing
pub mod Seats
pub mod SoundPasses
