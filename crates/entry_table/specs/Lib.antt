-- The table of entries
pub mod Table
-- what functions below the public calls answer; no claim rests on it
pub mod code
