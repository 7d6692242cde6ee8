-- ---- lists
pub mod ItemsOfLists
-- ---- a job
mod JobsAreDone
mod EntriesAreAdded
mod SystemAfterTurn
-- ---- a batch: its systems go out, and come home
mod BatchWritesApart
mod BatchGoesOut
mod BatchComesHome
mod BatchOfOne
mod BatchAfterBatch
-- ---- a frame: systems join, turns are taken
mod SystemsJoin
mod CoreRunsFrame
-- ---- an engine
mod FirstEngineStands
mod BuilderBuilds
pub mod EngineRunsFrames
mod AccountsTell
mod SinceThen
