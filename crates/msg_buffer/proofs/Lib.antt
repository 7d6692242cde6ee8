-- Histories
pub mod Numbers
pub mod Histories
pub mod Presence
pub mod Growth
-- What a buffer stands for
pub mod Standing
-- Readers
pub mod Unread
pub mod Tiles
