-- What is proved of the loop over a plan
pub mod Planning
pub mod Unsigned
