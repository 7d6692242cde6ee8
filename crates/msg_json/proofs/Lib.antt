-- puts one after another, pieces of a text, and the digits of numbers
pub mod Puts
pub mod NumberedPieces
pub mod Digits
-- reading a file: lists of JSON values, element by element
pub mod WalksOverLists
pub mod FaultsOfFiles
