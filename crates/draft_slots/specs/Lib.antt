-- What slots hold, and how two slots are joined
pub mod Joining
-- what functions below the public calls answer; no claim rests on it
pub mod code
