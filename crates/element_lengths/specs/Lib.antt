-- What the functions that skip elements by their lengths answer; no claim rests on it
pub mod code
