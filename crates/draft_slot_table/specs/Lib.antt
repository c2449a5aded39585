-- The table of a transaction's slots
pub mod Slots
pub mod Table
-- what functions below the public calls answer; no claim rests on it
pub mod code
