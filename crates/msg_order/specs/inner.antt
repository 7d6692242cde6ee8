-- What only private functions cite.
pub mod Paths
pub mod SystemSet
pub mod Users
