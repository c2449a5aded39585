-- Owners as a format
pub mod Owners
