-- The steps of the writer
pub mod Steps
pub mod Fields
-- what functions below the public calls answer; no claim rests on it
pub mod code
