-- ---- lists
pub mod ElementsAndPairs
-- ---- turns and frames keep the systems, and the log has their order
pub mod SystemsStay
pub mod FramesInOrder
-- ---- turns side by side, and in other orders
pub mod EntriesOfSteps
pub mod TurnsCommute
pub mod BatchesSideBySide
pub mod Functions
pub mod LawfulOrdersAgree
-- ---- histories
pub mod HistoriesGrow
-- ---- what a reader goes past: in a job, in turns, in a frame, over a run
pub mod ReaderOverJob
pub mod EntriesAddUp
pub mod ReaderOverTurns
pub mod TellsEachOnce
pub mod BeforeTurns
pub mod StatesStaySound
pub mod FirstStatesAreSound
pub mod WrittenOnce
pub mod ReaderOverRun
pub mod ReplaysTellTheSame
-- ---- worked runs
pub mod WorkedRuns
