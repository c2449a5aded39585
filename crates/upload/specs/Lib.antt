-- The calls of an upload
pub mod Calls
