-- Proofs of the statements about uploads
pub mod Answering
pub mod Running
pub mod Theorems
