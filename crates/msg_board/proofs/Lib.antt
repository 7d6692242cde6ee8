-- Lists
mod TableLists
mod Sums
-- Each step keeps the law
mod Steps
-- What that says of a pass
mod PassSeats
