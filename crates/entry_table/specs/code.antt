-- How the code counts, finds and writes the rows
pub mod Rows
