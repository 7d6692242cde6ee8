-- ---- turns
mod OrderOfTurns
mod ObserversOrder
mod Observers
-- ---- what is refused
mod Refusals
-- ---- what runs tell of readers
mod StepsAnswered
mod LogsTell
mod ReaderLaws
mod OneFateEach
mod LateStarts
mod WritersInOrder
-- ---- readers that read all
mod StampsStayRecent
mod OneTurn
mod ReadersTakeAll
mod ReadersStayUpToDate
-- Turns that begin by reading all
mod TurnsBegin
mod ProgramsReadAll
mod WakeUps
mod BeginsWoken
mod Latency
