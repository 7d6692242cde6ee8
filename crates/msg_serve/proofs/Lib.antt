-- which requests change a state
pub mod Requests
-- the lines of an input
mod InputLines
-- requests that are answered one after another
pub mod AnswersInTurn
-- frames after those of the file
mod FramesOfTheFile
-- what is answered line by line
pub mod OneLineEach
