-- Outputs and inputs given as fields
pub mod Heads
pub mod Pieces
pub mod Outputs
pub mod Inputs
