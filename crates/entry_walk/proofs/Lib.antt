-- The laws that proofs cite
pub mod Each
pub mod Starting
pub mod Advancing
