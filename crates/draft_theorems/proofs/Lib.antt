-- Proofs of demand 3 and of the laws of filling
pub mod Laws
pub mod Merging
pub mod Running
pub mod Listing
pub mod Pairing
pub mod Demand
pub mod Reading
pub mod Ordering
pub mod Filling
pub mod Refilling
pub mod Slotting
pub mod Answering
pub mod Deciding
pub mod Theorems
