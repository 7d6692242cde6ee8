-- lists, names and conditions
pub mod ListsInTurn
pub mod NamesInOrder
pub mod ConditionsAreRead
-- what is known of a scenario that was read: it can be run
pub mod FitsOfReadings
pub mod WhatIsUsedIsThere
pub mod ReadScenarioRuns
-- what a file is refused for
pub mod FaultsOfScenarios
