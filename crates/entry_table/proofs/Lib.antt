-- The laws that proofs cite
pub mod Stepping
pub mod Looping
pub mod Inside
pub mod Bounding
pub mod Tabling
