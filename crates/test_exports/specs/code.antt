-- The answers to a test
pub mod Encoded
pub mod Values
pub mod Turns
