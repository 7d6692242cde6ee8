-- Ops on a loan, one after the other
pub mod Steps
-- Which op of a turn writes which part
pub mod Written
-- The lists of an outbox
pub mod Lists
-- What a system reads and writes
pub mod Uses
-- Turns of a function's system
pub mod FunctionTurns
-- What is put into an answer
pub mod Putting
-- What a function is given
pub mod GivenWorld
-- What an answer leaves of a world
pub mod WrittenWorld
