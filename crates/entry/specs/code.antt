-- An entry as the code reads it
pub mod Typed
