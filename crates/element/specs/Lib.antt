-- The elements of a transaction as formats, in the order of document 01's "Layout"
pub mod Outputs
pub mod Inputs
pub mod Operations
pub mod PlainBytes
pub mod Good
-- what functions below the public calls answer; no claim rests on it
pub mod code
