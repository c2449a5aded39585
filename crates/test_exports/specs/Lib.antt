-- What the exports for tests answer; no claim rests on it
pub mod code
