-- Laws of verdicts
pub mod Verdicts
pub mod FieldLaws
pub mod Lent
pub mod Integers
pub mod Judging
pub mod States
