-- Accesses, by their masks
pub mod Bits
pub mod Conflicts
-- Slots, and parts that go out of them
pub mod PartsMove
-- Worlds, and what is lent of them
mod Worlds
pub mod Loans
