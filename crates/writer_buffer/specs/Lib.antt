-- The buffer lent to the writer
pub mod Stores
pub mod Closing
-- what functions below the public calls answer; no claim rests on it
pub mod code
