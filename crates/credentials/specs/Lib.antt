-- What functions below the public calls answer; no claim rests on it
pub mod code
