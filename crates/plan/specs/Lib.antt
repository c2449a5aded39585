-- What is due by a plan
pub mod Due
-- what functions below the public calls answer; no claim rests on it
pub mod code
