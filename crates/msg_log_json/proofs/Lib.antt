-- lists that are made element by element
pub mod Lists
-- what is told of a world by what is kept of it
pub mod Kept
-- each line of JSON is one line
pub mod OneLine
