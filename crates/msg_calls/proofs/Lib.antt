-- the calls of a file, element by element
pub mod CallsAreRead
-- its calls, one after another, and their text
pub mod ItemsInLines
pub mod CallsAreRun
