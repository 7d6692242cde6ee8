-- numbers up to a limit
pub mod Numbers
-- what clap finds in words
pub mod RowValues
pub mod ClapErrors
pub mod ClapFillsRows
pub mod ClapTakesAsk
