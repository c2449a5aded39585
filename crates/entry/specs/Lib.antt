-- Entry n as typed fields
pub mod Entry
-- what functions below the public calls answer; no claim rests on it
pub mod code
