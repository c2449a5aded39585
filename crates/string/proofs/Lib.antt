-- The laws that proofs cite, here and in the crates above
pub mod Reading
pub mod Passing
pub mod Refusing
