pub mod Access
pub mod WritingThrough
pub mod Loan
pub mod LoanLaws
pub mod Parts
pub mod Prelude
pub mod World
pub mod inner
