-- The rules of a step as the code tests them
pub mod Texts
pub mod Elements
pub mod Judged
