-- The steps from one entry to the next
pub mod Walk
