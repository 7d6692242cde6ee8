-- What programs, conditions and jobs read and write
pub mod AccessesUseNeeds
-- What is read from a loan, and written through it
pub mod Lendings
-- Programs op by op, and systems
pub mod Runs
pub mod Turns
-- Nothing else is used
pub mod FootprintsHold
-- What a loan covers, and what is given back of it
pub mod LoansCover
-- Turns that a behavior decides
pub mod Deciding
-- A turn is over once its ops were done
pub mod TurnsEnd
-- Turns that nothing cuts
pub mod WholeTurns
