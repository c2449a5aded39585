-- What the code computes from a plan and from a name
pub mod Rows
