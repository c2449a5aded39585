-- The answers to the phone program
pub mod Packed
