-- What a step of the writer is given, and why it is refused
pub mod Given
pub mod Judged
-- what functions below the public calls answer; no claim rests on it
pub mod code
