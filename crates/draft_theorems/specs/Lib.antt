-- Groupings of merge calls, demand 3, the slots that it speaks of, filling, and what every call of merge and fill guarantees
pub mod Groupings
pub mod Demand
pub mod Order
pub mod Filling
pub mod Answers
pub mod Slots
