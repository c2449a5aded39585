-- What is proved of what is due by a plan
pub mod RowLaws
pub mod Passing
