-- the engine of a scenario
pub mod EngineIsMade
-- its report: the text of a frame, of frames, and what the sink took of them
pub mod TextsByPieces
pub mod SameReads
pub mod Reporting
