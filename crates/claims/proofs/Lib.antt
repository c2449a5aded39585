-- Proofs of the claims
pub mod Standing
pub mod Answering
pub mod Occurring
pub mod Measuring
pub mod Filling
pub mod Instances
pub mod Claims
